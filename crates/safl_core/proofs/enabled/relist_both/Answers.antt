use Rattle.std.proofs.Common.{inl, ⊎_elim, ◌∙◌}
use Rattle.safl_core.proofs.SetsPutRight.{relists_by, relists_then, places_after}
use Rattle.safl_core.proofs.enabled.relist_both.Goals as goal

pub relist-requires-2-clause-places : goal.relist-requires-2-clause-places
relist-requires-2-clause-places c = places_after c.requires.places c.relist.ensures

pub returns-then-concerned : goal.returns-then-concerned
returns-then-concerned c =
    let e = c.if-concerned.true in
    relists_by c.requires.places
    (λ k lt q. q)
    (λ k lt q. q)
    (λ f lt q. ⊎_elim (λ x. x) (λ y. y ∙ e) q)
    (λ v lt q. ⊎_elim (λ x. x) (λ y. y ∙ e) q)
    c.relist.ensures

pub returns : goal.returns
returns c =
    relists_by c.requires.places
    (λ k lt q. inl q)
    (λ k lt q. inl q)
    (λ f lt q. q)
    (λ v lt q. q)
    (relists_then c.relist.ensures c.relist-2.ensures)
