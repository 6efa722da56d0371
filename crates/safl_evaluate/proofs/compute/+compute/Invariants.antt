use Rattle.safl_evaluate.proofs.Common.{nodes, nodes_in, shown_term, shown_terms, ◌*◌, ◌+◌}
use Rattle.safl_evaluate.proofs.compute.+compute.Given as goal

abbrev pub decreases-compute : goal.decreases-compute
decreases-compute l = 3 * nodes (shown_term l.t.now)

abbrev pub decreases-operand : goal.decreases-operand
decreases-operand l = 3 * nodes (shown_term l.t.now) + 1

abbrev pub decreases-pair : goal.decreases-pair
decreases-pair l = 3 * nodes_in (shown_terms l.ts.now) + 2

abbrev pub decreases-values : goal.decreases-values
decreases-values l = 3 * nodes_in (shown_terms l.ts.now) + 2
