use Rattle.std.proofs.Common.{length}
use Rattle.safl_labels.proofs.twins.+fits.Given as goal

abbrev pub decreases-fits : goal.decreases-fits
decreases-fits l = length l.found.now
