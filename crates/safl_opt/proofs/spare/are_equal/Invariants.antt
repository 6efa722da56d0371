use Rattle.safl_opt.proofs.Common.{sig_at, ℕ, ◌<◌, ◌≡◌}
use Rattle.safl_opt.proofs.spare.are_equal.Given as goal

abbrev pub invariant-all : goal.invariant-all
invariant-all l = (k : ℕ) → k < l.i → sig_at l.a k ≡ sig_at l.b k
