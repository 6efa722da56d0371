use Rattle.safl_core.proofs.Common.{stage_at, ℕ, ◌<◌, ◌≡◌, ◌≤◌}
use Rattle.safl_calls.specs.Machine.{ended}
use Rattle.safl_core.proofs.step.end_sites.Given as goal

abbrev pub invariant-loop-k : goal.invariant-loop-k
invariant-loop-k l = record {
  below : (j : ℕ) → j < l.k → stage_at l.stages j ≡ ended l.c.program l.u (stage_at l.initial.stages) j;
  above : (j : ℕ) → l.k ≤ j → stage_at l.stages j ≡ stage_at l.initial.stages j;
}
