use Rattle.std.proofs.Common.{◌≡◌, take}
use Rattle.safl_net.proofs.net.make_cell.Given as goal

abbrev pub invariant-loop-s : goal.invariant-loop-s
invariant-loop-s l = l.all.items ≡ take l.s-index l.operands
