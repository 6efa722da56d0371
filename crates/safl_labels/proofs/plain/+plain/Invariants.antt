use Rattle.safl_labels.proofs.Common.{nodes, nodes_in, shown_term, shown_terms, ◌*◌, ◌+◌}
use Rattle.safl_labels.proofs.plain.+plain.Given as goal

abbrev pub decreases-is_plain : goal.decreases-is_plain
decreases-is_plain l = 2 * nodes (shown_term l.t.now)

abbrev pub decreases-are_plain : goal.decreases-are_plain
decreases-are_plain l = 2 * nodes_in (shown_terms l.ts.now) + 1
