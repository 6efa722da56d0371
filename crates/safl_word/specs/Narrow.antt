-- Narrow words: of at most 64 bits.
use Rattle.std.specs.Prelude.{ℕ, ◌≤◌, Option, None, Some}

-- there is a width, and it is at most 64 bits
abbrev pub HasLow : Option ℕ → Type 0
HasLow None = ⊥
HasLow (Some w) = w ≤ 64
