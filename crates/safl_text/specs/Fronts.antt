-- What a text begins with.
use Rattle.std.specs.Prelude.{◌≡◌, ◌≢◌, ℕ, ◌<◌, ◌≤◌, ◌==◌, ◌&&◌, List, [], ◌∷◌, ◌++◌, length, take, drop, slice_index, Bool, false, Some}
use Rattle.safl_word.specs.Numerals.{is_digit, IsNumeral}
use Rattle.safl_word.specs.Runs.{IsRun}
use Rattle.safl_word.specs.Tokens.{sym_text, is_blank, begins_name, base_of, Piece, Blank, Comment, Lexeme, text_of, text_of_all, StandsBefore, StandAll, tokens_from}
use Rattle.safl_word.specs.Breaks.{BreaksAtFirst}
use Rattle.safl_word.specs.declared.token.Sym.{Sym}
use Rattle.safl_word.specs.declared.token.Token.{Token}
use Rattle.safl_text.specs.declared.front.Front.{Front}
use Rattle.safl_text.specs.declared.front.Front.TheVariants as fronts

-- the text begins with a `'`, the letter of a base and a run of its digits
pub record HasSize (text : List ℕ) (base n : ℕ) : Type 0 where
  pub letter : ℕ
  pub digits : List ℕ
  pub joined : text ≡ 39 ∷ letter ∷ digits
  pub based : base_of letter ≡ Some base
  pub some : 1 ≤ n
  pub run : IsRun (is_digit base) digits n

abbrev pub HasNoSize : List ℕ → Type 0
HasNoSize text = (letter base : ℕ) (digits rest : List ℕ) → base_of letter ≡ Some base → IsNumeral base digits → text ≡ 39 ∷ letter ∷ (digits ++ rest) → ⊥

-- whether the text begins with two slashes
abbrev pub begins_comment : List ℕ → Bool
begins_comment [] = false
begins_comment (c ∷ []) = false
begins_comment (c ∷ (d ∷ rest)) = (c == 47) && (d == 47)

-- the first two bytes are no symbol
abbrev pub HasNoPair : List ℕ → Type 0
HasNoPair text = (c d : ℕ) (rest : List ℕ) (s : Sym) → text ≡ c ∷ d ∷ rest → c ∷ d ∷ [] ≢ sym_text s

-- the first byte is no blank, no digit, and cannot begin a name
pub record IsOther (text : List ℕ) : Type 0 where
  pub some : 0 < length text
  pub no_blank : is_blank (slice_index text 0) ≡ false
  pub no_name : begins_name (slice_index text 0) ≡ false
  pub no_digit : is_digit 10 (slice_index text 0) ≡ false

-- the first n bytes are this piece
pub record HasPiece (text : List ℕ) (n : ℕ) (x : Piece) : Type 0 where
  pub within : n ≤ length text
  pub is : text_of x ≡ take n text
  pub stands : StandsBefore x (drop n text)

-- the piece is a blank or a comment
abbrev pub IsGap : Piece → Type 0
IsGap (Blank c) = Unit {0}
IsGap (Comment w) = Unit {0}
IsGap (Lexeme k w) = ⊥

-- the text begins with a blank or a comment, with a token, or with something that breaks a rule
abbrev pub Begins : List ℕ → Front → Type 0
Begins text (fronts.Gap n) = (x : Piece) × HasPiece text n x × IsGap x
Begins text (fronts.Found k n) = HasPiece text n (Lexeme k (take n text))
Begins text (fronts.Broken e) = BreaksAtFirst e text

-- the bytes up to place p are cut into pieces, and these are their tokens
pub record IsCutUpTo (text : List ℕ) (p : ℕ) (ts : List Token) : Type 0 where
  pub pieces : List Piece
  pub joined : text ≡ text_of_all pieces ++ drop p text
  pub stand : StandAll pieces (drop p text)
  pub place : p ≡ length (text_of_all pieces)
  pub tokens : ts ≡ tokens_from 0 pieces
