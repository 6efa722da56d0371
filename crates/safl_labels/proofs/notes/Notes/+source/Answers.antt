use Rattle.safl_labels.proofs.Common.{rules, shown_term, some_nodes}
use Rattle.safl_labels.proofs.notes.Notes.+source.Goals as goal

pub source_in-source_in-requires : goal.source_in-source_in-requires
source_in-source_in-requires t c = let some = some_nodes (shown_term c.in-Some.first.now) in search rules
