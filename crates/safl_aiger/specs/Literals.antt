-- Literals, and the numbers that lists of them show.
use Rattle.std.specs.Prelude.{ℕ, zero, suc, ◌+◌, ◌*◌, ◌/◌, ◌%◌, List, [], ◌∷◌, map, Bool, not, cond, ◌==◌}
use Rattle.safl_word.specs.Primitives.{bit_of}
use Rattle.safl_aiger.specs.declared.literal.Lit.{Lit}

-- which variables are true
abbrev pub Assignment : Type 0
Assignment = ℕ → Bool

-- whether a literal is true
abbrev pub on : Assignment → Lit → Bool
on m l = cond (l.0 % 2 == 0) (m (l.0 / 2)) (not (m (l.0 / 2)))

-- the same of the number of a literal
abbrev pub on_number : Assignment → ℕ → Bool
on_number m l = cond (l % 2 == 0) (m (l / 2)) (not (m (l / 2)))

abbrev pub values : Assignment → List Lit → List Bool
values m ls = map (on m) ls

-- the number with these bits, the lowest first
abbrev pub number : List Bool → ℕ
number [] = 0
number (b ∷ bs) = bit_of b + 2 * number bs

-- the number that literals show, the lowest bit first
abbrev pub shown : Assignment → List Lit → ℕ
shown m ls = number (values m ls)

-- this many of the lowest bits of a number
abbrev pub bits_of : ℕ → ℕ → List Bool
bits_of zero n = []
bits_of (suc w) n = (n % 2 == 1) ∷ bits_of w (n / 2)

-- whether a number is odd
abbrev pub is_odd : ℕ → Bool
is_odd n = n % 2 == 1
