use Rattle.safl_core.proofs.Common.{length, stage_at, ℕ, ◌≡◌}
use Rattle.safl_term.specs.Readiness as plain
use Rattle.safl_core.proofs.make.unsent.Given as goal

abbrev pub invariant-loop-made : goal.invariant-loop-made
invariant-loop-made l = (length l.stages.items ≡ l._made) × ((k : ℕ) → stage_at l.stages.items k ≡ plain.Unsent)
