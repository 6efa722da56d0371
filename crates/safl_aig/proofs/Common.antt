-- What several proofs of this crate cite from elsewhere.
pub use Rattle.std.proofs.Common.{sym, ◌*◌, ◌≡◌, ◌≤◌}
pub use Rattle.std.proofs.lemmas.List.{length-map, length_push}
pub use Rattle.std.proofs.lemmas.Result.{IfOk-weaker}
pub use Rattle.std.specs.List.{All}
pub use Rattle.safl_aig.specs.Bits.{gathered, of_kind}
pub use Rattle.safl_aig.specs.Places.{next_lits, next_sig, output_lits}
pub use Rattle.safl_aig.specs.Tables.{lits_at}
pub use Rattle.safl_aig.specs.Weights.{AllZero, output_weight, signal_weight, weight}
pub use Rattle.safl_aig.specs.Wiring.{Connected}
pub use Rattle.safl_aig.specs.declared.table.Pins.{Pins}
pub use Rattle.safl_aiger.specs.Circuits.{names_of}
pub use Rattle.safl_aiger.specs.declared.literal.Lit.{Lit}
pub use Rattle.safl_bits.specs.Gates.{Gates}
pub use Rattle.safl_net.specs.Making.{cell_on}
pub use Rattle.safl_net.specs.Netlist.{Netlist}
pub use Rattle.safl_net.specs.Rules.{CellFits, IsNetlist}
pub use Rattle.safl_net.specs.Stored.{cell_of}
pub use Rattle.safl_net.specs.declared.cell.Sig.{Sig}
pub use Rattle.safl_word.proofs.Lists.{summed_more}
pub use Rattle.safl_word.proofs.Naturals.{lower_or_last}
pub use Rattle.safl_word.specs.Lists.{summed}
