-- Where the tokens of a source are.
use Rattle.std.specs.Prelude.{◌≡◌, ℕ, ◌+◌, ◌<◌, ◌≤◌, List, [], ◌∷◌, ◌++◌, length, slice_range}
use Rattle.safl_word.specs.Tokens.{IsToken, Piece, text_of_all, HasTokens}
use Rattle.safl_word.specs.declared.token.Token.{Token}
use Rattle.safl_text.specs.Fronts.{IsGap}

-- the token is in the text, at place p or later, and its bytes are a text of its kind
pub record LiesAfter (text : List ℕ) (p : ℕ) (t : Token) : Type 0 where
  pub after : p ≤ t.start
  pub some : t.start < t.stop
  pub within : t.stop ≤ length text
  pub is : IsToken t.kind (slice_range text t.start t.stop)

-- the tokens are in the text, in order and without overlap
abbrev pub LieInOrder : List ℕ → ℕ → List Token → Type 0
LieInOrder text p [] = Unit {0}
LieInOrder text p (t ∷ ts) = LiesAfter text p t × LieInOrder text t.stop ts

abbrev pub AreGaps : List Piece → Type 0
AreGaps [] = Unit {0}
AreGaps (x ∷ xs) = IsGap x × AreGaps xs

-- the text is only blanks and comments
abbrev pub IsGapText : List ℕ → Type 0
IsGapText w = (xs : List Piece) × AreGaps xs × (w ≡ text_of_all xs)

-- the texts of the tokens from a place on, with the blanks and comments between them, are the text
abbrev pub AreJoined : ℕ → List Token → List ℕ → Type 0
AreJoined p [] text = IsGapText text
AreJoined p (t ∷ ts) text =
    (gap w rest : List ℕ) × (text ≡ gap ++ (w ++ rest)) × IsGapText gap × (t.start ≡ p + length gap) × (t.stop ≡ t.start + length w) × AreJoined t.stop ts rest

-- the texts of a source's tokens and the blanks and comments between them, joined in order, are the source
abbrev pub TokensJoined : Type 0
TokensJoined = (text : List ℕ) (ts : List Token) → HasTokens text ts → AreJoined 0 ts text
