use Rattle.safl_evaluate.proofs.Common.{nodes, shown_term}
use Rattle.safl_evaluate.proofs.evaluate.+evaluate.Given as goal

abbrev pub decreases-evaluate : goal.decreases-evaluate
decreases-evaluate l = nodes (shown_term l.t.now)
