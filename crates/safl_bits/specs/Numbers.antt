-- What the operators give, as numbers.
use Rattle.std.specs.Prelude.{◌≡◌, ℕ, ◌+◌, ◌*◌, ◌%◌, ◌^◌, List, length, cond, nat_lt}
use Rattle.safl_word.specs.Primitives.{bit_of}
use Rattle.safl_aiger.specs.declared.literal.Lit.{Lit}
use Rattle.safl_aiger.specs.Literals.{Assignment, on, shown}
use Rattle.safl_bits.specs.declared.words.Column.{Column}
use Rattle.safl_bits.specs.declared.words.Side.{Side}
use Rattle.safl_bits.specs.declared.words.Sum.{Sum}
use Rattle.safl_bits.specs.Gates.{Gates, IsLiteral, AreLiterals, Holds}
use Rattle.safl_bits.specs.Operators.{moved}

-- at one column of an addition: its bit and twice its carry are the sum of the three bits
abbrev pub AddsBits : Assignment → Lit → Lit → Lit → Column → Type 0
AddsBits m a b c r = bit_of (on m r.bit) + 2 * bit_of (on m r.carry) ≡ bit_of (on m a) + bit_of (on m b) + bit_of (on m c)

-- of a whole addition: its bits and the carry beyond them are the sum of the two words and the bit
abbrev pub AddsWords : Assignment → List Lit → List Lit → Lit → Sum → Type 0
AddsWords m a b c r = shown m r.bits.items + 2 ^ length a * bit_of (on m r.carry) ≡ shown m a + shown m b + bit_of (on m c)

-- the sum of two words and a bit, whose bits are as many as those of the first word
pub record IsSum (g : Gates) (a b : List Lit) (c : Lit) (r : Sum) : Type 0 where
  pub bits : AreLiterals g r.bits.items
  pub carry : IsLiteral g r.carry
  pub long : length r.bits.items ≡ length a
  pub value : (m : Assignment) → Holds g m → AddsWords m a b c r

-- a total with a row of a product added: if the bit is true, a word moved to a place
abbrev pub with_row : Assignment → List Lit → List Lit → Lit → ℕ → ℕ
with_row m total a bit place = (shown m total + cond (on m bit) ((shown m a * 2 ^ place) % 2 ^ length a) 0) % 2 ^ length a

-- a word moved by a constant number of places
abbrev pub moved_by : Assignment → Side → List Lit → ℕ → ℕ
moved_by m side a places = moved side (2 ^ length a) (shown m a) (2 ^ places)

-- a word moved by an amount. It is 0 if the amount is at least the width
abbrev pub shifted : Assignment → Side → List Lit → List Lit → ℕ
shifted m side a amount = cond (nat_lt (shown m amount) (length a)) (moved_by m side a (shown m amount)) 0
