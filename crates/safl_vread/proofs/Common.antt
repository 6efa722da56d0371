-- What several proofs of this crate cite from elsewhere.
pub use Rattle.std.proofs.Common.{List, Some, ap, rules, subst, sym, ℕ, ◌∙◌, ◌≡◌}
pub use Rattle.std.proofs.lemmas.Bool.{and_parts, eqb-true}
pub use Rattle.std.proofs.lemmas.Bool.Decides.{nat_tests}
pub use Rattle.std.proofs.lemmas.List.{length-map, length-set, map-append}
pub use Rattle.std.proofs.lemmas.Option.{slice_get-get_or, slice_get-map, slice_get_within}
pub use Rattle.std.proofs.lemmas.Result.{err_from_is_err_and}
pub use Rattle.std.proofs.lemmas.Slice.Eq.{bytes_eq-Decides}
pub use Rattle.std.specs.List.{flat_map}
pub use Rattle.std.specs.Option.{option_map}
pub use Rattle.std.specs.Prelude.{filter, is_none, slice_index}
pub use Rattle.std.specs.Str.{IsUtf8}
pub use Rattle.safl_net.proofs.EachOf.{each_join}
pub use Rattle.safl_net.specs.Arranged.{Each}
pub use Rattle.safl_net.specs.Netlist.{Netlist, Signal}
pub use Rattle.safl_net.specs.Widths.{op_width}
pub use Rattle.safl_net.specs.declared.cell.Op.{Op}
pub use Rattle.safl_verilog.proofs.Distinct.{Distinct, each_at}
pub use Rattle.safl_verilog.proofs.Lookups.{each_found, names, place_at}
pub use Rattle.safl_verilog.specs.FaultParts.{declared_names, declared_number_faults, header_faults, port_faults}
pub use Rattle.safl_verilog.specs.Faults.{is_output, stated_number_faults}
pub use Rattle.safl_verilog.specs.Files.{File, Spot}
pub use Rattle.safl_verilog.specs.Netlists.{declared_place, signals_of}
pub use Rattle.safl_verilog.specs.Reads.{Reads}
pub use Rattle.safl_verilog.specs.declared.fault.VFault.{VFault}
pub use Rattle.safl_verilog.specs.declared.token.Sort.{Sort}
pub use Rattle.safl_vparse.specs.Numbers.{literal_word}
pub use Rattle.safl_vparse.specs.Parsed.{IsFileText}
pub use Rattle.safl_vparse.specs.Shown.{shown_declaration, shown_declarations, shown_spot, shown_spots, shown_statement, shown_statements}
pub use Rattle.safl_vparse.specs.declared.error.VErr.{VErr}
pub use Rattle.safl_vread.specs.Drivers.{HasDrivers}
pub use Rattle.safl_vread.specs.Firsts.{first}
pub use Rattle.safl_vread.specs.Lists.{widths_of}
pub use Rattle.safl_vread.specs.Nets.{GoodNames, opened, partly, signal_at, signals_at}
pub use Rattle.safl_vread.specs.Parts.{later_faults}
pub use Rattle.safl_vread.specs.Scopes.{without_statements}
pub use Rattle.safl_vread.specs.Signals.{AreNumbers, IsOrder}
pub use Rattle.safl_vread.specs.declared.driver.Driver.{Driver}
pub use Rattle.safl_vread.specs.declared.driver.Operands.{Operands}
pub use Rattle.safl_vread.specs.declared.scope.Item.{Item}
pub use Rattle.safl_word.proofs.Booleans.{implied}
pub use Rattle.safl_word.proofs.Lists.{append_empty, bytes_flip}
