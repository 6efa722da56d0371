use Rattle.safl_sites.proofs.Common.{nodes, nodes_in, shown_term, shown_terms, ◌*◌, ◌+◌}
use Rattle.safl_sites.proofs.reach.+reach.Given as goal

abbrev pub decreases-reach : goal.decreases-reach
decreases-reach l = 2 * nodes (shown_term l.t.now)

abbrev pub decreases-reach_in : goal.decreases-reach_in
decreases-reach_in l = 2 * nodes_in (shown_terms l.ts.now) + 1
