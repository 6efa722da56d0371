use Rattle.std.proofs.Common.{length}
use Rattle.safl_evaluate.proofs.compute.+pass.Given as goal

abbrev pub decreases-pass : goal.decreases-pass
decreases-pass l = length l.ts.now
