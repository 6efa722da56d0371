-- What several proofs of this crate cite from elsewhere.
pub use Rattle.std.proofs.lemmas.Bool.Decides.{nat_tests}
pub use Rattle.std.proofs.lemmas.Option.{slice_get_within}
pub use Rattle.std.proofs.lemmas.Slice.Eq.{bytes_eq-Decides}
pub use Rattle.std.specs.List.{flat_map}
pub use Rattle.std.specs.declared.alloc.Global.{Global}
pub use Rattle.indexmap.proofs.CallerLemmas.{insert_entry-new}
pub use Rattle.safl_net.specs.Making.{signal_widths, with_output, with_signal}
pub use Rattle.safl_net.specs.Names.{IsTidy, has_name, is_temp, named_output, named_signal, one_wire}
pub use Rattle.safl_net.specs.Netlist.{Cell, Input, Kind, Netlist, Reg, Signal, Wire, width_in, width_of}
pub use Rattle.safl_net.specs.Rules.{CellFits, IsNetlist, KindFits, SignalFits}
pub use Rattle.safl_net.specs.Widths.{HasWord, op_width, prim_width}
pub use Rattle.safl_net.specs.declared.cell.Op.{Op}
pub use Rattle.safl_net.specs.declared.cell.Op.TheVariants.{Apply, Const, Copy, Mux}
pub use Rattle.safl_net.specs.declared.cell.Sig.{Sig}
pub use Rattle.safl_net.specs.declared.net.Row.{Row}
pub use Rattle.safl_word.proofs.Fits.{apply_fits}
pub use Rattle.safl_word.proofs.Lists.{get_pushed, get_some}
pub use Rattle.safl_word.proofs.Widths.{apply_width}
pub use Rattle.safl_word.specs.Primitives.{result_width}
pub use Rattle.safl_word.specs.declared.primitive.Primitive.{Primitive}
pub use Rattle.safl_word.specs.declared.primitive.Primitive.TheVariants.{Ext}
