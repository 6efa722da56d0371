use Rattle.std.proofs.Common.{length}
use Rattle.safl_lower.proofs.trees.+several_of.Given as goal

abbrev pub decreases-several_of : goal.decreases-several_of
decreases-several_of l = length l.bits.now
