-- What several proofs of this crate cite from elsewhere.
pub use Rattle.std.proofs.Common.{Bool, List, None, Option, ap, arith, is_some, length, map, not, refl, slice_get, subst, suc, sym, take, ℕ}
pub use Rattle.std.proofs.Common.{◌&&◌, ◌*◌, ◌++◌, ◌+◌, ◌==◌, ◌||◌, ◌∙◌, ◌≡◌, ◌≤◌}
pub use Rattle.std.proofs.Math.Bool.{and-false, or-false}
pub use Rattle.std.proofs.lemmas.Bool.{cases_lt, eq-eqb, eqb-false, eqb-true, false≢true, le-leb, lt-ltb, ne_eqb}
pub use Rattle.std.proofs.lemmas.Bool.Decides.{nat_tests}
pub use Rattle.std.proofs.lemmas.List.{append-nil, append_cancel_left, length-map, map-append, take_all}
pub use Rattle.std.proofs.lemmas.Option.{slice_get-get_or, slice_get_read, slice_get_within}
pub use Rattle.std.proofs.lemmas.Result.{IfOk-weaker}
pub use Rattle.std.proofs.lemmas.Slice.Eq.{bytes_eq-Decides}
pub use Rattle.std.specs.Cmp.{both_ways}
pub use Rattle.std.specs.List.{list_all}
pub use Rattle.std.specs.Prelude.{codes, unwrap_or}
pub use Rattle.safl_circuit.specs.Equations.{many}
pub use Rattle.safl_circuit.specs.Layout.{Line, named}
pub use Rattle.safl_circuit.specs.Names.{of_function, of_param, of_site}
pub use Rattle.safl_circuit.specs.Scheme.{Agree, Scheme, Wires}
pub use Rattle.safl_lower.proofs.Building.{builds_on, builds_same, builds_within, source_kept, sources_kept}
pub use Rattle.safl_lower.proofs.Cells.{sources_length}
pub use Rattle.safl_lower.proofs.Goes.{one_some}
pub use Rattle.safl_lower.proofs.JoinedRows.{row_kept, total_bare}
pub use Rattle.safl_lower.proofs.KnownLoads.{bits_kept, load_kept, maybe_bit_kept, maybe_load_kept, some_kept}
pub use Rattle.safl_lower.specs.Joints.{IsFirstOf}
pub use Rattle.safl_lower.specs.Loads.{loads_cost}
pub use Rattle.safl_lower.specs.Rows.{AreBits, RowsAreBits, bit_joins, frees, load_joins, maybe_one, on_any, on_two, row_at, total}
pub use Rattle.safl_lower.specs.Sources.{AreSources, Builds, HasRoom, IsSource}
pub use Rattle.safl_lower.specs.Tables.{BitsFit, EachAt, FitsIn, IsBitIn, SomeFit, bit_or, entry_in, load_bit, on_from, on_in, one_word}
pub use Rattle.safl_lower.specs.Tables.{pin, taken_at, taken_from, taken_in}
pub use Rattle.safl_lower.specs.declared.loads.Load.{Load}
pub use Rattle.safl_lower.specs.declared.lowered.Body.{Body}
pub use Rattle.safl_lower.specs.declared.lowered.Ports.{Ports}
pub use Rattle.safl_lower.specs.declared.lowered.SitePorts.{SitePorts}
pub use Rattle.safl_lower.specs.declared.trees.Several.{Several}
pub use Rattle.safl_net.proofs.Growth.{wired_before}
pub use Rattle.safl_net.specs.Bits.{gate, on}
pub use Rattle.safl_net.specs.Growth.{AreTemps, Grows, HasCell, Says, Val, Wired, words}
pub use Rattle.safl_net.specs.Making.{kind_in, refusal, with_output}
pub use Rattle.safl_net.specs.Names.{IsTidy, wires}
pub use Rattle.safl_net.specs.Netlist.{Netlist, Signal}
pub use Rattle.safl_net.specs.Rules.{IsNetlist}
pub use Rattle.safl_net.specs.Settled.{IsSettled, IsSteady, Settles}
pub use Rattle.safl_net.specs.declared.cell.Sig.{Sig}
pub use Rattle.safl_sites.specs.Plan.{Choice}
pub use Rattle.safl_term.proofs.HeldByChecked.{main_is_last, params_named}
pub use Rattle.safl_term.proofs.OrElse.{either_some, or_else_none, or_is}
pub use Rattle.safl_term.specs.Checked.{CheckedProgram, IsChecked}
pub use Rattle.safl_term.specs.Names.{Names}
pub use Rattle.safl_term.specs.Program.{Program, arity, unit_for}
pub use Rattle.safl_term.specs.Readiness.{or_else}
pub use Rattle.safl_unit.specs.Cycles.{Cycle, InEachCycle, MemberFits, PinsFit, SiteFits, UnitFits}
pub use Rattle.safl_unit.specs.Declaring.{argument_lines, at_line, function_lines, port_lines, unit_head, with_signals}
pub use Rattle.safl_unit.specs.Edges.{ShowsLoads, bit_of, operands_in, others_on}
pub use Rattle.safl_unit.specs.Finished.{HasControls, input_line, open_register, open_wire}
pub use Rattle.safl_unit.specs.Outcomes.{PushesLoads, maybe_load}
pub use Rattle.safl_unit.specs.Returning.{SiteShown}
pub use Rattle.safl_unit.specs.Setting.{copy_kind, next_kind, own_ties, with_kinds}
pub use Rattle.safl_unit.specs.Stages.{HasGoes, called}
pub use Rattle.safl_unit.specs.Steps.{MembersNext, SitesNext, UnitsNext}
pub use Rattle.safl_unit.specs.Ties.{numbered}
pub use Rattle.safl_unit.specs.declared.bodies.Gathered.{Gathered}
pub use Rattle.safl_unit.specs.declared.pins.Bank.{Bank}
pub use Rattle.safl_unit.specs.declared.pins.Controls.{Controls}
pub use Rattle.safl_unit.specs.declared.pins.MemberPins.{MemberPins}
pub use Rattle.safl_unit.specs.declared.pins.Outcomes.{Outcomes}
pub use Rattle.safl_unit.specs.declared.pins.Pins.{Pins}
pub use Rattle.safl_unit.specs.declared.pins.Returns.{Returns}
pub use Rattle.safl_unit.specs.declared.pins.SitePins.{SitePins}
pub use Rattle.safl_unit.specs.declared.pins.UnitPins.{UnitPins}
pub use Rattle.safl_word.proofs.Lists.{get_end, get_in_front, get_map, get_pushed, get_some, nil_at_end, take_suc}
pub use Rattle.safl_word.proofs.Naturals.{eq_flip}
pub use Rattle.safl_word.proofs.Options.{some_if}
pub use Rattle.safl_word.specs.Lists.{summed}
pub use Rattle.safl_word.specs.Numerals.{between}
pub use Rattle.safl_word.specs.Words.{Word, as_word}
