-- Numerals: runs of digits of a base, and the numbers that they spell.
use Rattle.std.specs.Prelude.{◌≡◌, ℕ, ◌+◌, ◌-◌, ◌*◌, ◌^◌, ◌<◌, ◌≤◌, List, [], ◌∷◌, length, Bool, true, if◌then◌else◌, ◌&&◌, ◌||◌, ◌==◌, nat_lt, nat_le, codes, map}
use Rattle.std.specs.List.{list_all}
use Rattle.std.specs.Int.Digits.{digits_of}

abbrev pub between : ℕ → ℕ → ℕ → Bool
between low high c = nat_le low c && nat_le c high

-- the value of a digit: `0` to `9` are 0 to 9, and letters of either case count from 10 on
abbrev pub digit : ℕ → ℕ
digit c = if nat_le c 57 then c - 48 else if nat_le c 70 then c - 55 else c - 87

-- whether a byte is a digit of a base, which is at most sixteen
abbrev pub is_digit : ℕ → ℕ → Bool
is_digit base c = (between 48 57 c || between 65 70 c || between 97 102 c) && nat_lt (digit c) base

-- the number that digits spell: the sum of each digit times the base to the number of digits after it
abbrev pub value : ℕ → List ℕ → ℕ
value base [] = 0
value base (c ∷ w) = digit c * base ^ length w + value base w

-- a run of digits of the base, at least one
pub record IsNumeral (base : ℕ) (w : List ℕ) : Type 0 where
  pub some : 1 ≤ length w
  pub digits : list_all (is_digit base) w ≡ true

-- a numeral of at most this many digits, of a number below the bound
pub record IsBounded (base most bound : ℕ) (w : List ℕ) : Type 0 where
  pub numeral : IsNumeral base w
  pub short : length w ≤ most
  pub small : value base w < bound

-- the binary digits of a number, as few as possible
abbrev pub binary : ℕ → List ℕ
binary n = if n == 0 then codes "0" else map (λ d. 48 + d) (digits_of 2 n)
