use Rattle.safl_core.proofs.Common.{arith, cases_eq, inl, inr, ⊎_elim}
use Rattle.safl_core.proofs.SetsPutRight.{relists_by, relists_then, relists_none, places_after}
use Rattle.safl_core.proofs.enabled.relist_members.Goals as goal

pub loop-f-init : goal.loop-f-init
loop-f-init c =
    relists_by c.requires.places
    (λ k lt q. q)
    (λ k lt q. q)
    (λ g lt q. absurd (omega (arith, (c.members_end-f-end.ensures.ends.all g lt q.0).0, q.1)))
    (λ v lt q. q)
    (relists_none c.args.enabled.now)

pub relist_member-requires-clause-function : goal.relist_member-requires-clause-function
relist_member-requires-clause-function c = omega (arith, c.members_end-f-end.ensures.ends.most, c.loop-f-test.true)

pub relist_member-requires-clause-places : goal.relist_member-requires-clause-places
relist_member-requires-clause-places c = places_after c.requires.places c.loop-f.invariant

pub loop-f-preserved : goal.loop-f-preserved
loop-f-preserved c =
    relists_by c.requires.places
    (λ k lt q. inl q)
    (λ k lt q. inl q)
    (λ g lt q. ⊎_elim (λ e. inr e) (λ ne. inl (q.0, omega (arith, q.1, ne))) (cases_eq g c.loop-f.f))
    (λ v lt q. inl q)
    (relists_then c.loop-f.invariant c.relist_member.ensures)

pub returns : goal.returns
returns c =
    relists_by c.requires.places
    (λ k lt q. q)
    (λ k lt q. q)
    (λ g lt q. (q, omega (arith, (c.members_end-f-end.ensures.ends.all g lt q).1, c.loop-f-test.false)))
    (λ v lt q. q)
    c.loop-f.invariant
