-- Numbers in two halves of 64 bits.
use Rattle.std.specs.Prelude.{ℕ, ◌+◌, ◌*◌, ◌/◌, ◌%◌, ◌^◌, List, [], ◌∷◌}

abbrev pub low_half : ℕ → ℕ
low_half x = x % 2 ^ 64

abbrev pub high_half : ℕ → ℕ
high_half x = x / 2 ^ 64

-- the numbers with these low and high halves
abbrev pub joined_halves : List ℕ → List ℕ → List ℕ
joined_halves [] highs = []
joined_halves (l ∷ lows) [] = []
joined_halves (l ∷ lows) (h ∷ highs) = (l + h * 2 ^ 64) ∷ joined_halves lows highs
