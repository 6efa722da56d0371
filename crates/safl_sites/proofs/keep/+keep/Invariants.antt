use Rattle.safl_sites.proofs.Common.{nodes, nodes_in, shown_term, shown_terms, ◌*◌, ◌+◌}
use Rattle.safl_sites.proofs.keep.+keep.Given as goal

abbrev pub decreases-walk : goal.decreases-walk
decreases-walk l = 2 * nodes (shown_term l.t.now)

abbrev pub decreases-walk_all : goal.decreases-walk_all
decreases-walk_all l = 2 * nodes_in (shown_terms l.ts.now) + 1

abbrev pub decreases-bind_all : goal.decreases-bind_all
decreases-bind_all l = 2 * nodes_in (shown_terms l.ts.now) + 1
