use Rattle.safl_sites.proofs.Common.{nodes, nodes_in, shown_term, shown_terms, ◌*◌, ◌+◌}
use Rattle.safl_sites.proofs.touched.+touch.Given as goal

abbrev pub decreases-touch : goal.decreases-touch
decreases-touch l = 2 * nodes (shown_term l.t.now)

abbrev pub decreases-touch_in : goal.decreases-touch_in
decreases-touch_in l = 2 * nodes_in (shown_terms l.ts.now) + 1
