use Rattle.std.proofs.Common.{ℕ, ◌<◌}
use Rattle.safl_labels.specs.Kept.{IsKept}
use Rattle.safl_labels.specs.Shown.{shown_labels}
use Rattle.safl_labels.proofs.keeping.are_kept.Given as goal

abbrev pub invariant-loop-f : goal.invariant-loop-f
invariant-loop-f l = (f : ℕ) → f < l.f → IsKept l.c.program (shown_labels l.labels) f
