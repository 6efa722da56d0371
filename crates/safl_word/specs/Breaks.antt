-- Which rule a text breaks at a byte, in full: what begins there is foreign to all tokens, or it is too long for one.
use Rattle.std.specs.Prelude.{◌≡◌, ◌≢◌, ℕ, ◌<◌, ◌≤◌, List, ◌∷◌, ◌++◌, length, true, ◌⊎◌}
use Rattle.safl_word.specs.Numerals.{value, IsNumeral}
use Rattle.safl_word.specs.declared.fault.Rule.{Rule}
use Rattle.safl_word.specs.declared.fault.Rule.TheVariants as rules
use Rattle.safl_word.specs.Limits.{name_max, digits_max, value_bound}
use Rattle.safl_word.specs.Tokens.{is_blank, IsNameLike, SizedParts, sized_text, IsSizedLike, IsLexeme, IsLongest, Piece, text_of_all, StandAll}

-- the numeral has too many digits, or too great a value
abbrev pub Passes : ℕ → List ℕ → Type 0
Passes base w = (digits_max < length w) ⊎ (value_bound ≤ value base w)

-- the text is a name that is too long, or a number with a numeral that is too long or too great
pub data IsTooLong (w : List ℕ) : Type 0 where
  long_name : IsNameLike w → name_max < length w → IsTooLong w
  long_number : IsNumeral 10 w → Passes 10 w → IsTooLong w
  long_sized : (s : SizedParts) → w ≡ sized_text s → IsSizedLike s → Passes 10 s.width ⊎ Passes s.base s.digits → IsTooLong w

-- the text begins with no token, no blank and no comment
pub record IsForeign (text : List ℕ) : Type 0 where
  pub some : 1 ≤ length text
  pub no_blank : (c : ℕ) (rest : List ℕ) → text ≡ c ∷ rest → is_blank c ≢ true
  pub no_comment : (rest : List ℕ) → text ≢ 47 ∷ 47 ∷ rest
  pub no_token : (u v : List ℕ) → u ++ v ≡ text → ¬ IsLexeme u

-- the longest token form that the text begins with is too long
pub record BeginsTooLong (text : List ℕ) : Type 0 where
  pub front : List ℕ
  pub rest : List ℕ
  pub joined : text ≡ front ++ rest
  pub longest : IsLongest front rest
  pub too_long : IsTooLong front

-- the rule that the text breaks at its first byte
abbrev pub BreaksAtFirst : Rule → List ℕ → Type 0
BreaksAtFirst rules.E01 text = IsForeign text
BreaksAtFirst rules.E03 text = BeginsTooLong text
BreaksAtFirst _ text = ⊥

-- pieces come before the place, and the rest breaks the rule at its first byte
pub record BreaksAt (text : List ℕ) (e : Rule) (place : ℕ) : Type 0 where
  pub pieces : List Piece
  pub rest : List ℕ
  pub joined : text ≡ text_of_all pieces ++ rest
  pub stand : StandAll pieces rest
  pub place_is : place ≡ length (text_of_all pieces)
  pub broken : BreaksAtFirst e rest
