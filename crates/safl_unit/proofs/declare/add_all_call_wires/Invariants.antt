use Rattle.safl_unit.proofs.Common.{map, open_wire, with_signals, ◌≡◌}
use Rattle.safl_circuit.specs.Layout.{lines, site_wires}
use Rattle.safl_unit.proofs.declare.add_all_call_wires.Given as goal

abbrev pub invariant-loop-k : goal.invariant-loop-k
invariant-loop-k l = l.net ≡ with_signals l.initial.net (map open_wire (lines (site_wires l.p.program l.p.choice) l.k))
