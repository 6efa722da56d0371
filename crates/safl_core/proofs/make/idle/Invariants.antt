use Rattle.safl_core.proofs.Common.{length, unit_at, ℕ, ◌≡◌}
use Rattle.safl_calls.specs.Machine as core
use Rattle.safl_core.proofs.make.idle.Given as goal

abbrev pub invariant-loop-made : goal.invariant-loop-made
invariant-loop-made l = (length l.modes.items ≡ l._made) × ((u : ℕ) → unit_at l.modes.items u ≡ core.Idle)
