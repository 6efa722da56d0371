use Rattle.safl_tree.specs.Sizes.{work_at}
use Rattle.safl_tree.proofs.dismantle.dismantle.Given as goal

abbrev pub decreases-loop-next : goal.decreases-loop-next
decreases-loop-next l = work_at l.at
