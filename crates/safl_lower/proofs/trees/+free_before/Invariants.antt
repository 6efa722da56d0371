use Rattle.std.proofs.Common.{length}
use Rattle.safl_lower.proofs.trees.+free_before.Given as goal

abbrev pub decreases-free_before : goal.decreases-free_before
decreases-free_before l = length l.bits.now
