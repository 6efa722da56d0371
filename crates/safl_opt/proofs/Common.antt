-- What several proofs of this crate cite from elsewhere.
pub use Rattle.std.proofs.Common.{None, Some, [], ap, arith, below_more, false, inl, inr, length, map, refl, slice_get, subst, sym, take}
pub use Rattle.std.proofs.Common.{true, ℕ, ◌++◌, ◌+◌, ◌<◌, ◌∙◌, ◌∷◌, ◌≡◌}
pub use Rattle.std.proofs.lemmas.Bool.{cases_eq, lt-ltb, ltb-false, ltb-true}
pub use Rattle.std.proofs.lemmas.Bool.Decides.{nat_tests}
pub use Rattle.std.proofs.lemmas.List.{append-nil, map_push, take_all}
pub use Rattle.std.proofs.lemmas.List.Elements.{All-cons, All-nil}
pub use Rattle.std.proofs.lemmas.Option.{slice_get_within}
pub use Rattle.std.proofs.lemmas.Simd.{map-map}
pub use Rattle.std.specs.List.{list_any}
pub use Rattle.std.specs.Prelude.{if◌then◌else◌, option_map}
pub use Rattle.safl_net.proofs.Keeping.{numbers_length}
pub use Rattle.safl_net.proofs.Reading.{place_of}
pub use Rattle.safl_net.proofs.SignalKinds.{next_kind}
pub use Rattle.safl_net.specs.Growth.{Val, Wired}
pub use Rattle.safl_net.specs.Making.{cell_in, cell_on, kind_at, kind_in, name_at, name_in, numbers, refusal, sort_of, with_output}
pub use Rattle.safl_net.specs.Names.{IsTidy, is_temp, one_wire, temp_name, wires}
pub use Rattle.safl_net.specs.Netlist.{Cell, Input, Kind, Netlist, Reg, Signal, Wire, width_of}
pub use Rattle.safl_net.specs.Rules.{CellFits, IsNetlist, KindFits}
pub use Rattle.safl_net.specs.Stored.{cell_of}
pub use Rattle.safl_net.specs.Valuations.{IsAcyclic, cell_word}
pub use Rattle.safl_net.specs.Widths.{op_width}
pub use Rattle.safl_net.specs.declared.cell.Op.{Op}
pub use Rattle.safl_net.specs.declared.cell.Sig.{Sig}
pub use Rattle.safl_net.specs.declared.cell.SigKind.{SigKind}
pub use Rattle.safl_opt.specs.Building.{IsAdded, IsValueOf, new_number, node_cell}
pub use Rattle.safl_opt.specs.Lean.{IsTemporary, are_constants, is_constant, is_numbered}
pub use Rattle.safl_opt.specs.Nodes.{Different, HasPlace, node_op, node_operands}
pub use Rattle.safl_opt.specs.Smaller.{IsSmaller}
pub use Rattle.safl_opt.specs.Spare.{IsChoice, IsReader}
pub use Rattle.safl_opt.specs.Stages.{Declared, Placed}
pub use Rattle.safl_opt.specs.Values.{Folds, inputs_below, named_below, registers_below, sig_at, value_width}
pub use Rattle.safl_opt.specs.declared.fold.Values.{Values}
pub use Rattle.safl_opt.specs.declared.node.Node.{Node}
pub use Rattle.safl_order.proofs.Moves.{wire_in_net}
pub use Rattle.safl_order.specs.Order.{IsOrder, IsWire, ReadsSignal, operands_in, operands_of}
pub use Rattle.safl_word.proofs.Lists.{get_some, map_at, take_next}
pub use Rattle.safl_word.specs.Lists.{bool_at}
pub use Rattle.safl_word.specs.Words.{Word}
pub use Rattle.safl_word.specs.declared.primitive.Primitive.{Primitive}
