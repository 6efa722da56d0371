use Rattle.safl_labels.proofs.Common.{nodes, nodes_in, shown_term, shown_terms, ◌*◌, ◌+◌}
use Rattle.safl_labels.proofs.plain.+reading.Given as goal

abbrev pub decreases-reads_secret : goal.decreases-reads_secret
decreases-reads_secret l = 2 * nodes (shown_term l.t.now)

abbrev pub decreases-read_secret : goal.decreases-read_secret
decreases-read_secret l = 2 * nodes_in (shown_terms l.ts.now) + 1
