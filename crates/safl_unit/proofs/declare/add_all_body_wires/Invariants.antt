use Rattle.safl_unit.proofs.Common.{map, open_wire, with_signals, ◌≡◌}
use Rattle.safl_circuit.specs.Layout.{lines, function_wires}
use Rattle.safl_unit.proofs.declare.add_all_body_wires.Given as goal

abbrev pub invariant-loop-f : goal.invariant-loop-f
invariant-loop-f l = l.net ≡ with_signals l.initial.net (map open_wire (lines (function_wires l.c.names) l.f))
