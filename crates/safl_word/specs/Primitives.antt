-- The primitives: which widths their operands have, and what their results are.
use Rattle.std.specs.Prelude.{ℕ, ◌+◌, ◌-◌, ◌*◌, ◌/◌, ◌%◌, ◌^◌, List, [], ◌∷◌, Option, Some, None, Bool, cond, not, ◌==◌, ◌&&◌, nat_lt, nat_le, bit_and, bit_or, bit_xor}
use Rattle.safl_word.specs.Words.{Word, no_word}
use Rattle.safl_word.specs.Limits.{width_max}
use Rattle.safl_word.specs.declared.primitive.Primitive.{Primitive}
use Rattle.safl_word.specs.declared.primitive.Primitive.TheVariants.{Add, Sub, Mul, And, Or, Xor, Not, Eq, Ne, Lt, Le, Gt, Ge, Shl, Shr, Cat, Bits, Ext}

-- whether a width is from 1 to the greatest
abbrev pub is_width : ℕ → Bool
is_width w = nat_le 1 w && nat_le w width_max

-- the width of the result for operands of these widths, if the primitive takes them. Each is the width of a word
abbrev pub one_width : (ℕ → Option ℕ) → List ℕ → Option ℕ
one_width f (w ∷ []) = cond (is_width w) (f w) None
one_width f _ = None

abbrev pub two_widths : (ℕ → ℕ → Option ℕ) → List ℕ → Option ℕ
two_widths f (w ∷ (v ∷ [])) = cond (is_width w && is_width v) (f w v) None
two_widths f _ = None

abbrev pub where_true : Bool → ℕ → Option ℕ
where_true b w = cond b (Some w) None

abbrev pub compared_widths : List ℕ → Option ℕ
compared_widths ws = two_widths (λ w v. where_true (w == v) 1) ws

abbrev pub result_width : Primitive → List ℕ → Option ℕ
result_width Not ws = one_width (λ w. Some w) ws
result_width Eq ws = compared_widths ws
result_width Ne ws = compared_widths ws
result_width Lt ws = compared_widths ws
result_width Le ws = compared_widths ws
result_width Gt ws = compared_widths ws
result_width Ge ws = compared_widths ws
result_width Shl ws = two_widths (λ w v. Some w) ws
result_width Shr ws = two_widths (λ w v. Some w) ws
result_width Cat ws = two_widths (λ u v. where_true (nat_le (u + v) width_max) (u + v)) ws
result_width (Bits high low) ws = one_width (λ w. where_true (nat_le low high && nat_lt high w) (high - low + 1)) ws
result_width (Ext n) ws = one_width (λ w. where_true (nat_le w n && nat_le n width_max) n) ws
result_width _ ws = two_widths (λ w v. where_true (w == v) w) ws

-- the result for one operand; and for two
abbrev pub one_word : (Word → Word) → List Word → Word
one_word f (a ∷ []) = f a
one_word f _ = no_word

abbrev pub two_words : (Word → Word → Word) → List Word → Word
two_words f (a ∷ (b ∷ [])) = f a b
two_words f _ = no_word

-- a result of the first operand's width; and one of one bit
abbrev pub alike : (ℕ → ℕ → ℕ → ℕ) → List Word → Word
alike f vs = two_words (λ a b. record { width = a.width; bits = f (2 ^ a.width) a.bits b.bits }) vs

abbrev pub bit_of : Bool → ℕ
bit_of b = cond b 1 0

abbrev pub compared : (ℕ → ℕ → Bool) → List Word → Word
compared f vs = two_words (λ a b. record { width = 1; bits = bit_of (f a.bits b.bits) }) vs

-- the result of a shift of a by b. It is 0 unless b is below the width of a
abbrev pub shifted : (ℕ → ℕ → ℕ → ℕ) → List Word → Word
shifted f vs = two_words (λ a b. record { width = a.width; bits = cond (nat_lt b.bits a.width) (f (2 ^ a.width) a.bits (2 ^ b.bits)) 0 }) vs

abbrev pub apply_prim : Primitive → List Word → Word
apply_prim Add vs = alike (λ m a b. (a + b) % m) vs
apply_prim Sub vs = alike (λ m a b. (m + a - b) % m) vs
apply_prim Mul vs = alike (λ m a b. (a * b) % m) vs
apply_prim And vs = alike (λ m a b. bit_and a b) vs
apply_prim Or vs = alike (λ m a b. bit_or a b) vs
apply_prim Xor vs = alike (λ m a b. bit_xor a b) vs
apply_prim Not vs = one_word (λ a. record { width = a.width; bits = 2 ^ a.width - 1 - a.bits }) vs
apply_prim Eq vs = compared (λ a b. a == b) vs
apply_prim Ne vs = compared (λ a b. not (a == b)) vs
apply_prim Lt vs = compared (λ a b. nat_lt a b) vs
apply_prim Le vs = compared (λ a b. nat_le a b) vs
apply_prim Gt vs = compared (λ a b. nat_lt b a) vs
apply_prim Ge vs = compared (λ a b. nat_le b a) vs
apply_prim Shl vs = shifted (λ m a s. (a * s) % m) vs
apply_prim Shr vs = shifted (λ m a s. a / s) vs
apply_prim Cat vs = two_words (λ a b. record { width = a.width + b.width; bits = a.bits * 2 ^ b.width + b.bits }) vs
apply_prim (Bits high low) vs = one_word (λ a. record { width = high - low + 1; bits = (a.bits / 2 ^ low) % 2 ^ (high - low + 1) }) vs
apply_prim (Ext n) vs = one_word (λ a. record { width = n; bits = a.bits }) vs

abbrev pub equal_widths : List ℕ → Option ℕ
equal_widths ws = two_widths (λ w v. where_true (w == v) w) ws
