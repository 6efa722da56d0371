-- Texts of tokens, with a blank after each token.
use Rattle.std.specs.Prelude.{◌≡◌, ℕ, ◌+◌, ◌<◌, List, [], ◌∷◌, ◌++◌, length, true, codes, decimal}
use Rattle.safl_word.specs.Tokens.{is_blank, IsToken, HasTokens}
use Rattle.safl_word.specs.declared.token.TokenKind.{TokenKind}
use Rattle.safl_word.specs.declared.token.TokenKind.TheVariants as kinds
use Rattle.safl_word.specs.declared.token.Token.{Token}
use Rattle.safl_word.specs.Limits.{value_bound}

-- the kind and the text of a token, and the blank after it
pub record Spaced : Type 0 where
  pub kind : TokenKind
  pub text : List ℕ
  pub blank : ℕ

pub record IsSpaced (x : Spaced) : Type 0 where
  pub token : IsToken x.kind x.text
  pub blank : is_blank x.blank ≡ true

abbrev pub AreSpaced : List Spaced → Type 0
AreSpaced [] = Unit {0}
AreSpaced (x ∷ xs) = IsSpaced x × AreSpaced xs

abbrev pub spaced_text : List Spaced → List ℕ
spaced_text [] = []
spaced_text (x ∷ xs) = x.text ++ x.blank ∷ spaced_text xs

-- the tokens of such a text. The first begins at this place
abbrev pub spaced_tokens : ℕ → List Spaced → List Token
spaced_tokens p [] = []
spaced_tokens p (x ∷ xs) = record { start = p; stop = p + length x.text; kind = x.kind } ∷ spaced_tokens (p + length x.text + 1) xs

-- the text with a blank after each token reads as these tokens
abbrev pub SpacedReads : Type 0
SpacedReads = (xs : List Spaced) → AreSpaced xs → HasTokens (spaced_text xs) (spaced_tokens 0 xs)

-- the decimal digits of a number read as its token; and those of a width, `'d` and those of a value as the token of a sized
-- number
abbrev pub WritesNumbers : Type 0
WritesNumbers = (n : ℕ) → n < value_bound → IsToken (kinds.Num n) (decimal n)

abbrev pub WritesSizes : Type 0
WritesSizes = (m n : ℕ) → m < value_bound → n < value_bound → IsToken (kinds.Sized m n) (decimal m ++ codes "'d" ++ decimal n)
