use Rattle.std.proofs.Common.{length}
use Rattle.safl_labels.proofs.search.+are_hidden.Given as goal

abbrev pub decreases-are_hidden : goal.decreases-are_hidden
decreases-are_hidden l = length l.secret.now
