use Rattle.std.proofs.Common.{◌≡◌, ◌<◌, ◌≤◌, ℕ}
use Rattle.safl_core.proofs.spans.members_end.Given as goal

abbrev pub invariant-loop-f : goal.invariant-loop-f
invariant-loop-f l = (g : ℕ) → l.u ≤ g → g < l.f → l.c.program.unit g ≡ l.u
