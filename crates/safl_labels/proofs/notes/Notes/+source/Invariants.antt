use Rattle.safl_labels.proofs.Common.{nodes, nodes_in, shown_term, shown_terms, ◌*◌, ◌+◌}
use Rattle.safl_labels.proofs.notes.Notes.+source.Given as goal

abbrev pub decreases-source : goal.decreases-source
decreases-source l = 2 * nodes (shown_term l.t.now)

abbrev pub decreases-source_in : goal.decreases-source_in
decreases-source_in l = 2 * nodes_in (shown_terms l.ts.now) + 1
