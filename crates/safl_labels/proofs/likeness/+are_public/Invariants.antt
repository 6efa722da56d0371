use Rattle.std.proofs.Common.{length}
use Rattle.safl_labels.proofs.likeness.+are_public.Given as goal

abbrev pub decreases-are_public : goal.decreases-are_public
decreases-are_public l = length l.labels.now
