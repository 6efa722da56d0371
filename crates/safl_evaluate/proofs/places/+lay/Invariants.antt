use Rattle.safl_evaluate.proofs.Common.{nodes, nodes_in, shown_term, shown_terms, ◌*◌, ◌+◌}
use Rattle.safl_evaluate.proofs.places.+lay.Given as goal

abbrev pub decreases-lay : goal.decreases-lay
decreases-lay l = 3 * nodes (shown_term l.t.now) + 1

abbrev pub decreases-lay_parts : goal.decreases-lay_parts
decreases-lay_parts l = 3 * nodes (shown_term l.t.now)

abbrev pub decreases-lay_all : goal.decreases-lay_all
decreases-lay_all l = 3 * nodes_in (shown_terms l.ts.now) + 2
