use Rattle.safl_vwrite.proofs.Common.{flat_map, output_assignment, take, ◌++◌, ◌≡◌}
use Rattle.safl_vwrite.proofs.statements.assign_outputs.Given as goal

abbrev pub invariant-loop-i : goal.invariant-loop-i
invariant-loop-i l = l.out.items ≡ l.fn.out.items ++ flat_map (output_assignment l.net) (take l.i l.net.outputs)
