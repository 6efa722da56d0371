use Rattle.std.proofs.Common.{inl, inr}
use Rattle.safl_core.proofs.SetsPutRight.{relists_by, relists_then, places_after}
use Rattle.safl_core.proofs.enabled.relist_after.Goals as goal

pub relist_service-requires-clause-places : goal.relist_service-requires-clause-places
relist_service-requires-clause-places c = places_after c.requires.places c.relist_both.ensures

pub returns : goal.returns
returns c =
    relists_by c.requires.places
    (λ k lt q. inl q)
    (λ k lt q. inr q)
    (λ f lt q. inl q)
    (λ v lt q. inl q)
    (relists_then c.relist_both.ensures c.relist_service.ensures)
