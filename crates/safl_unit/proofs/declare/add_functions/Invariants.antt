use Rattle.safl_unit.proofs.Common.{length, map, open_register, ◌≡◌}
use Rattle.safl_circuit.specs.Layout.{lines}
use Rattle.safl_unit.specs.Declaring.{with_signals, function_lines, FunctionsPinned}
use Rattle.safl_unit.proofs.declare.add_functions.Given as goal

abbrev pub invariant-loop-f : goal.invariant-loop-f
invariant-loop-f l = record {
  net : l.net ≡ with_signals l.initial.net (map open_register (lines (function_lines l.c.program l.c.names) l.f));
  pinned : FunctionsPinned l.c.program l.c.names (length l.initial.net.signals) l.f l.units.items l.members.items;
}
