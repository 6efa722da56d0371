use Rattle.safl_core.proofs.Common.{get_or, length, unit_for, ℕ, ◌<◌, ◌≡◌}
use Rattle.safl_core.proofs.make.called.Given as goal

abbrev pub invariant-loop-k : goal.invariant-loop-k
invariant-loop-k l = record {
  long : length l.units.items ≡ l.k;
  each : (j : ℕ) → j < l.k → (get_or l.units.items j 0 ≡ unit_for l.c.program j) × (unit_for l.c.program j < l.c.program.functions);
}
