use Rattle.safl_labels.proofs.Common.{rules, shown_term, some_nodes}
use Rattle.safl_labels.proofs.plain.+reading.Goals as goal

pub read_secret-read_secret-requires : goal.read_secret-read_secret-requires
read_secret-read_secret-requires t c = let some = some_nodes (shown_term c.in-Some.first.now) in search rules
