use Rattle.safl_core.proofs.Common.{List, ap, delivered, inl, inr, unit_at, ⊎_elim, ◌∙◌}
use Rattle.safl_core.specs.declared.mode.Mode.{Mode}
use Rattle.safl_core.proofs.SetsPutRight.{relists_by, relists_then, places_after}
use Rattle.safl_core.proofs.enabled.relist_service.Goals as goal

pub relist_return-requires-2-clause-places : goal.relist_return-requires-2-clause-places
relist_return-requires-2-clause-places c = places_after c.requires.places c.relist_return.ensures

pub returns : goal.returns
returns c =
    let now = c.delivered_to.ensures ∙ ap (λ (x : List Mode). delivered (unit_at x c.args.u)) c.deref.ensures.value in
    relists_by c.requires.places
    (λ k lt q. inl q)
    (λ k lt q. ⊎_elim (λ a. inl a) (λ b. inr (now ∙ b)) q)
    (λ f lt q. inl q)
    (λ v lt q. inl q)
    (relists_then c.relist_return.ensures c.relist_return-2.ensures)
