-- The laws of words.
use Rattle.std.specs.Prelude.{◌≡◌, ℕ, ◌-◌, ◌<◌, ◌≤◌, List, [], ◌∷◌, map, Some, decimal}
use Rattle.safl_word.specs.Words.{Word, IsWord, AreWords}
use Rattle.safl_word.specs.declared.primitive.Primitive.{Primitive}
use Rattle.safl_word.specs.declared.primitive.Primitive.TheVariants.{Cat, Bits, Ext, Shl, Shr}
use Rattle.safl_word.specs.Numerals.{IsBounded, value}
use Rattle.safl_word.specs.Primitives.{result_width, apply_prim}
use Rattle.safl_word.specs.Limits.{argument_max, value_bound}

-- if the table of widths has a width, the result is a word of that width
abbrev pub GivesWords : Type 0
GivesWords =
    (o : Primitive) (vs : List Word) (n : ℕ) → AreWords vs → result_width o (map (λ v. v.width) vs) ≡ Some n
    → IsWord (apply_prim o vs) × ((apply_prim o vs).width ≡ n)

-- the concatenation of the high and the low slice of a word is the word
abbrev pub SlicesJoin : Type 0
SlicesJoin =
    (a : Word) (k : ℕ) → IsWord a → 1 ≤ k → k < a.width
    → apply_prim Cat (apply_prim (Bits (a.width - 1) k) (a ∷ []) ∷ apply_prim (Bits (k - 1) 0) (a ∷ []) ∷ []) ≡ a

-- a shift by the width or more gives zero
abbrev pub ShiftsOut : Type 0
ShiftsOut =
    (a b : Word) → a.width ≤ b.bits
    → (apply_prim Shl (a ∷ b ∷ []) ≡ record { width = a.width; bits = 0 }) × (apply_prim Shr (a ∷ b ∷ []) ≡ record { width = a.width; bits = 0 })

-- an extension keeps the number
abbrev pub ExtensionKeeps : Type 0
ExtensionKeeps = (a : Word) (n : ℕ) → (apply_prim (Ext n) (a ∷ [])).bits ≡ a.bits

-- the decimal digits of a number are a numeral of at most 39 digits that spells that number
abbrev pub DecimalCounts : Type 0
DecimalCounts = (n : ℕ) → n < value_bound → IsBounded 10 argument_max value_bound (decimal n) × (value 10 (decimal n) ≡ n)
