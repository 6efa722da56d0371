-- The names of a program.
use Rattle.std.specs.Prelude.{ℕ, List}

-- the names of a program's functions, and of their parameters
pub record Names : Type 0 where
  pub name : ℕ → List ℕ
  pub params : ℕ → List (List ℕ)
