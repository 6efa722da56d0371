use Rattle.safl_opt.proofs.Common.{are_constants, numbers, take, true, ◌≡◌}
use Rattle.safl_opt.proofs.spare.are_constants.Given as goal

abbrev pub invariant-loop-s : goal.invariant-loop-s
invariant-loop-s l = are_constants l.n (numbers (take l.s-index l.all)) ≡ true
