use Rattle.safl_evaluate.proofs.Common.{nodes, shown_term}
use Rattle.safl_evaluate.proofs.compute.+conclude.Given as goal

abbrev pub decreases-conclude : goal.decreases-conclude
decreases-conclude l = nodes (shown_term l.t.now)
