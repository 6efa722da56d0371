use Rattle.safl_sites.proofs.Common.{nodes, nodes_in, shown_term, shown_terms, ◌*◌, ◌+◌}
use Rattle.safl_sites.proofs.parallel.+mark.Given as goal

abbrev pub decreases-mark : goal.decreases-mark
decreases-mark l = 2 * nodes (shown_term l.t.now)

abbrev pub decreases-mark_in : goal.decreases-mark_in
decreases-mark_in l = 2 * nodes_in (shown_terms l.ts.now) + 1
