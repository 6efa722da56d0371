-- Runs: how many bytes a text begins with that pass a test.
use Rattle.std.specs.Prelude.{◌≡◌, ℕ, ◌≤◌, List, [], ◌∷◌, length, take, drop, Bool, true, false}
use Rattle.std.specs.List.{list_all}

-- the text is empty, or its first byte does not pass
abbrev pub EndsRun : (ℕ → Bool) → List ℕ → Type 0
EndsRun p [] = Unit {0}
EndsRun p (c ∷ rest) = p c ≡ false

-- the first n bytes pass, and the next one, if there is one, does not
pub record IsRun (p : ℕ → Bool) (text : List ℕ) (n : ℕ) : Type 0 where
  pub within : n ≤ length text
  pub passes : list_all p (take n text) ≡ true
  pub ends : EndsRun p (drop n text)
