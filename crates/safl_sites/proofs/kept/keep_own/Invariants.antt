use Rattle.safl_sites.proofs.Common.{Adds, Has, ℕ, ◌+◌}
use Rattle.safl_sites.specs.Bodies.{IsOwnKept}
use Rattle.safl_sites.proofs.kept.keep_own.Given as goal

abbrev pub invariant-loop-i : goal.invariant-loop-i
invariant-loop-i l = (k : ℕ) → Adds (Has l.fn.kept k) (Has l.kept k) (IsOwnKept l.c.program l.reach l.peers l.keeps l.first (l.first + l.i) k)
