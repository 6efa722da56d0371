use Rattle.safl_evaluate.proofs.Common.{nodes, nodes_in, shown_term, shown_terms, ◌*◌, ◌+◌}
use Rattle.safl_evaluate.proofs.evaluate.+find.Given as goal

abbrev pub decreases-look : goal.decreases-look
decreases-look l = 5 * nodes (shown_term l.t.now)

abbrev pub decreases-find : goal.decreases-find
decreases-find l = 5 * nodes (shown_term l.t.now) + 1

abbrev pub decreases-operand : goal.decreases-operand
decreases-operand l = 5 * nodes (shown_term l.t.now) + 2

abbrev pub decreases-pair : goal.decreases-pair
decreases-pair l = 5 * nodes_in (shown_terms l.ts.now) + 3

abbrev pub decreases-look_at_all : goal.decreases-look_at_all
decreases-look_at_all l = 5 * nodes_in (shown_terms l.ts.now) + 3

abbrev pub decreases-values : goal.decreases-values
decreases-values l = 5 * nodes_in (shown_terms l.ts.now) + 4
