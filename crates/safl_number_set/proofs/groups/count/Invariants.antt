use Rattle.std.proofs.Common.{◌-◌}
use Rattle.safl_number_set.proofs.CountedGroups.{Halfway}
use Rattle.safl_number_set.proofs.groups.count.Given as goal

abbrev pub invariant-loop-k : goal.invariant-loop-k
invariant-loop-k l = Halfway l.s l.g l.more l.k l.tally

abbrev pub decreases-loop-k : goal.decreases-loop-k
decreases-loop-k l = l.numbers - l.k
