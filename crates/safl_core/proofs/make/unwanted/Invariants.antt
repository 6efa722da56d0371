use Rattle.std.proofs.Common.{◌≡◌, ℕ, length, get_or, None}
use Rattle.safl_core.proofs.make.unwanted.Given as goal

abbrev pub invariant-loop-made : goal.invariant-loop-made
invariant-loop-made l = (length l.wants.items ≡ l._made) × ((k : ℕ) → get_or l.wants.items k None ≡ None)
