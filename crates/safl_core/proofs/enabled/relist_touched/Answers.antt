use Rattle.safl_core.proofs.Common.{arith, cases_eq, inl, inr, ⊎_elim}
use Rattle.safl_core.proofs.SetsPutRight.{relists_by, relists_then, relists_none, places_after}
use Rattle.safl_core.proofs.enabled.relist_touched.Goals as goal

pub loop-k-init : goal.loop-k-init
loop-k-init c =
    relists_by c.requires.places
    (λ j lt q. absurd (omega (arith, q.0, q.1)))
    (λ j lt q. q)
    (λ g lt q. q)
    (λ v lt q. q)
    (relists_none c.args.enabled.now)

pub relist_call-requires-clause-site : goal.relist_call-requires-clause-site
relist_call-requires-clause-site c = omega (arith, c.requires.span, c.loop-k-test.true)

pub relist_call-requires-clause-places : goal.relist_call-requires-clause-places
relist_call-requires-clause-places c = places_after c.requires.places c.loop-k.invariant

pub loop-k-preserved : goal.loop-k-preserved
loop-k-preserved c =
    relists_by c.requires.places
    (λ j lt q. ⊎_elim (λ e. inr e) (λ ne. inl (q.0, omega (arith, q.1, ne))) (cases_eq j c.loop-k.k))
    (λ j lt q. inl q)
    (λ g lt q. inl q)
    (λ v lt q. inl q)
    (relists_then c.loop-k.invariant c.relist_call.ensures)

pub returns : goal.returns
returns c =
    relists_by c.requires.places
    (λ j lt q. (q.0, omega (arith, q.1, c.loop-k-test.false)))
    (λ j lt q. q)
    (λ g lt q. q)
    (λ v lt q. q)
    c.loop-k.invariant
