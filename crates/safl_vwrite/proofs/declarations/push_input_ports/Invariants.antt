use Rattle.safl_vwrite.proofs.Common.{flat_map, input_port, take, ◌++◌, ◌≡◌}
use Rattle.safl_vwrite.proofs.declarations.push_input_ports.Given as goal

abbrev pub invariant-loop-i : goal.invariant-loop-i
invariant-loop-i l = l.out.items ≡ l.fn.out.items ++ flat_map input_port (take l.i l.net.signals)
