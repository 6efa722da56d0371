use Rattle.std.proofs.Common.{◌≡◌, ℕ, ◌<◌, ◌≤◌}
use Rattle.safl_lower.proofs.group.group_end.Given as goal

abbrev pub invariant-loop-g : goal.invariant-loop-g
invariant-loop-g l = (h : ℕ) → l.f ≤ h → h < l.g → l.c.program.unit h ≡ l.c.program.unit l.f
