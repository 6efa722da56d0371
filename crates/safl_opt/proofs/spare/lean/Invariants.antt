use Rattle.safl_opt.proofs.Common.{IsTemporary, ℕ, ◌<◌}
use Rattle.safl_opt.specs.Spare.{IsWanted}
use Rattle.safl_opt.proofs.spare.lean.Given as goal

abbrev pub invariant-signals : goal.invariant-signals
invariant-signals l = (k : ℕ) → k < l.i → IsTemporary l.n k → IsWanted l.n k
