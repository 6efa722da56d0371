use Rattle.safl_lower.proofs.resets.+split.Given as goal

abbrev pub decreases-split : goal.decreases-split
decreases-split l = l.count
