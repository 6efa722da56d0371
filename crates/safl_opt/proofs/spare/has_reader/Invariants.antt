use Rattle.safl_opt.proofs.Common.{IsReader, ℕ, ◌<◌}
use Rattle.safl_opt.proofs.spare.has_reader.Given as goal

abbrev pub invariant-signals : goal.invariant-signals
invariant-signals l = (k : ℕ) → k < l.i → ¬ IsReader l.n k l.s.0
