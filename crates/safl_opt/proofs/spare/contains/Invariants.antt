use Rattle.std.proofs.Common.{◌≢◌, ◌<◌, ℕ}
use Rattle.safl_opt.specs.Values.{sig_at}
use Rattle.safl_opt.proofs.spare.contains.Given as goal

abbrev pub invariant-loop-x : goal.invariant-loop-x
invariant-loop-x l = (k : ℕ) → k < l.x-index → sig_at l.all k ≢ l.s.0
