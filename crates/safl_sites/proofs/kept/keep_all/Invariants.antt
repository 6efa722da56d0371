use Rattle.safl_sites.proofs.Common.{Adds, Has, ℕ}
use Rattle.safl_sites.specs.Bodies.{IsKeptBelow}
use Rattle.safl_sites.proofs.kept.keep_all.Given as goal

abbrev pub invariant-loop-g : goal.invariant-loop-g
invariant-loop-g l = (k : ℕ) → Adds (Has l.fn.kept k) (Has l.kept k) (IsKeptBelow l.c.program l.g k)
