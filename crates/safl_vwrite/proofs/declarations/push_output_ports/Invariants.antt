use Rattle.safl_vwrite.proofs.Common.{flat_map, take, ◌++◌, ◌≡◌}
use Rattle.safl_net.specs.WrittenParts.{output_port}
use Rattle.safl_vwrite.proofs.declarations.push_output_ports.Given as goal

abbrev pub invariant-loop-i : goal.invariant-loop-i
invariant-loop-i l = l.out.items ≡ l.fn.out.items ++ flat_map output_port (take l.i l.net.outputs)
