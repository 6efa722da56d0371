use Rattle.safl_term.specs.Weights.{work_at}
use Rattle.safl_term.proofs.dismantle.dismantle.Given as goal

abbrev pub decreases-loop-next : goal.decreases-loop-next
decreases-loop-next l = work_at l.at
