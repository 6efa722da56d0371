-- Texts, lists of booleans, and sums.
use Rattle.std.specs.Prelude.{ℕ, zero, suc, ◌+◌, List, get_or, Bool, false}

-- the bytes of a text
abbrev pub Text : Type 0
Text = List ℕ

-- the i-th of a list, or false
abbrev pub bool_at : List Bool → ℕ → Bool
bool_at bs i = get_or bs i false

-- the sum over the numbers below a number
abbrev pub summed : (ℕ → ℕ) → ℕ → ℕ
summed f zero = 0
summed f (suc k) = summed f k + f k
