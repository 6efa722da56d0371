-- What several proofs of this crate cite from elsewhere.
pub use Rattle.std.proofs.Common.{[], ◌≡◌}
pub use Rattle.std.proofs.lemmas.Option.{slice_get_within}
pub use Rattle.safl_net.specs.Making.{numbers}
pub use Rattle.safl_net.specs.Netlist.{Netlist}
pub use Rattle.safl_net.specs.Valuations.{IsAcyclic}
pub use Rattle.safl_net.specs.declared.cell.Sig.{Sig}
pub use Rattle.safl_order.specs.Walk.{AllDone, Walks}
pub use Rattle.safl_order.specs.declared.walk.Frame.{Frame}
pub use Rattle.safl_order.specs.declared.walk.Mark.{Mark}
pub use Rattle.safl_order.specs.declared.walk.Mark.TheVariants.{Done, Open, Unseen}
pub use Rattle.safl_order.specs.declared.walk.Stop.{Stop}
pub use Rattle.safl_word.proofs.Naturals.{lower_or_last}
