use Rattle.safl_opt.proofs.Common.{cell_of, ℕ, ◌<◌, ◌≡◌}
use Rattle.safl_opt.specs.Lean.{HasCell}
use Rattle.safl_opt.proofs.spare.is_alone.Given as goal

abbrev pub invariant-signals : goal.invariant-signals
invariant-signals l = (t : ℕ) → t < l.i → HasCell l.n t (cell_of l.cell) → t ≡ l.s.0
