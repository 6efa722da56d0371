use Rattle.std.proofs.Common.{◌≡◌, ℕ, length, get_or}
use Rattle.safl_term.specs.Readiness as plain
use Rattle.safl_core.proofs.make.unanswered.Given as goal

abbrev pub invariant-loop-made : goal.invariant-loop-made
invariant-loop-made l = (length l.answers.items ≡ l._made) × ((u : ℕ) → get_or l.answers.items u plain.NotYet ≡ plain.NotYet)
