use Rattle.safl_vwrite.proofs.Common.{flat_map, take, wire_assignment, ◌++◌, ◌≡◌}
use Rattle.safl_vwrite.proofs.statements.assign_wires.Given as goal

abbrev pub invariant-loop-i : goal.invariant-loop-i
invariant-loop-i l = l.out.items ≡ l.fn.out.items ++ flat_map (wire_assignment l.net) (take l.i l.net.signals)
