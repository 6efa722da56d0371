use Rattle.std.proofs.Common.{inl, inr}
use Rattle.safl_core.proofs.SetsPutRight.{relists_by, relists_then, places_after}
use Rattle.safl_core.proofs.enabled.relist.Goals as goal

pub relist_members-requires-clause-places : goal.relist_members-requires-clause-places
relist_members-requires-clause-places c = places_after c.requires.places c.relist_unit.ensures

pub returns : goal.returns
returns c =
    relists_by c.requires.places
    (λ k lt q. inl q)
    (λ k lt q. inl q)
    (λ f lt q. inr q)
    (λ v lt q. inl q)
    (relists_then c.relist_unit.ensures c.relist_members.ensures)
