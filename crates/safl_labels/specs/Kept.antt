-- Which labels a program keeps.
use Rattle.std.specs.Prelude.{◌≡◌, ℕ}
use Rattle.safl_term.specs.Program.{Program}
use Rattle.safl_calls.specs.Labels.{Labels, Twins}

-- The body of the function is its own twin, and its result has the label of its group.
pub record IsKept (C : Program) (L : Labels) (f : ℕ) : Type 0 where
  pub twins : Twins L (L.params f) (C.body f) (C.body f) (L.result f)
  pub grouped : L.result f ≡ L.result (C.unit f)
