use Rattle.safl_opt.proofs.Common.{length, sig_at, ℕ, ◌<◌, ◌≡◌}
use Rattle.safl_opt.proofs.build.own_numbers.Given as goal

abbrev pub invariant-kept : goal.invariant-kept
invariant-kept l = record { long : length l.made.items ≡ l.i; own : (x : ℕ) → x < l.i → sig_at l.made.items x ≡ x }
