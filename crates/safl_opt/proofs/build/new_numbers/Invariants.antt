use Rattle.safl_opt.proofs.Common.{map, new_number, numbers, take, ◌≡◌}
use Rattle.safl_opt.proofs.build.new_numbers.Given as goal

abbrev pub invariant-loop-x : goal.invariant-loop-x
invariant-loop-x l = numbers l.operands.items ≡ map (new_number l.values l.made) (numbers (take l.x-index l.all))
