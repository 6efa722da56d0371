-- The tokens of a source: how its bytes are cut into tokens, and the first place where they cannot be.
use Rattle.std.specs.Prelude.{◌≡◌, ◌≢◌, ℕ, ◌+◌, ◌≤◌, List, [], ◌∷◌, ◌++◌, length, Bool, true, not, ◌==◌, ◌||◌, Option, Some, None, if◌then◌else◌, codes}
use Rattle.std.specs.List.{list_all, flat_map}
use Rattle.safl_word.specs.Cutting
use Rattle.safl_word.specs.Numerals.{between, value, IsNumeral, IsBounded}
use Rattle.safl_word.specs.declared.token.Key.{Key}
use Rattle.safl_word.specs.declared.token.Key.TheVariants as keys
use Rattle.safl_word.specs.declared.token.Sym.{Sym}
use Rattle.safl_word.specs.declared.token.Sym.TheVariants as syms
use Rattle.safl_word.specs.declared.token.TokenKind.{TokenKind}
use Rattle.safl_word.specs.declared.token.TokenKind.TheVariants as kinds
use Rattle.safl_word.specs.declared.token.Token.{Token}
use Rattle.safl_word.specs.declared.fault.Rule.{Rule}
use Rattle.safl_word.specs.Limits.{name_max, digits_max, value_bound}
use Rattle.safl_word.specs.declared.fault.Rule.TheVariants as rules

abbrev pub key_text : Key → List ℕ
key_text keys.Fun = codes "fun"
key_text keys.If = codes "if"
key_text keys.Then = codes "then"
key_text keys.Else = codes "else"
key_text keys.Let = codes "let"
key_text keys.In = codes "in"
key_text keys.Case = codes "case"
key_text keys.Default = codes "default"
key_text keys.Cat = codes "cat"
key_text keys.Bits = codes "bits"
key_text keys.Ext = codes "ext"
key_text keys.And = codes "and"

abbrev pub sym_text : Sym → List ℕ
sym_text syms.OpenParen = codes "("
sym_text syms.CloseParen = codes ")"
sym_text syms.OpenBrace = codes "{"
sym_text syms.CloseBrace = codes "}"
sym_text syms.Comma = codes ","
sym_text syms.Colon = codes ":"
sym_text syms.Semicolon = codes ";"
sym_text syms.Assign = codes "="
sym_text syms.Arrow = codes "=>"
sym_text syms.Equal = codes "=="
sym_text syms.NotEqual = codes "!="
sym_text syms.Less = codes "<"
sym_text syms.LessEqual = codes "<="
sym_text syms.Greater = codes ">"
sym_text syms.GreaterEqual = codes ">="
sym_text syms.ShiftLeft = codes "<<"
sym_text syms.ShiftRight = codes ">>"
sym_text syms.Plus = codes "+"
sym_text syms.Minus = codes "-"
sym_text syms.Star = codes "*"
sym_text syms.Ampersand = codes "&"
sym_text syms.Bar = codes "|"
sym_text syms.Caret = codes "^"
sym_text syms.Tilde = codes "~"

-- the byte is a space, a tab, a carriage return or a line feed
abbrev pub is_blank : ℕ → Bool
is_blank c = c == 32 || c == 9 || c == 13 || c == 10

-- the byte is a letter or `_`
abbrev pub begins_name : ℕ → Bool
begins_name c = between 65 90 c || between 97 122 c || c == 95

-- the byte is a letter, a digit or `_`
abbrev pub in_name : ℕ → Bool
in_name c = begins_name c || between 48 57 c

-- the form of names and keywords
abbrev pub IsNameLike : List ℕ → Type 0
IsNameLike [] = ⊥
IsNameLike (c ∷ w) = (begins_name c ≡ true) × (list_all in_name w ≡ true)

-- the base that a letter stands for: `d` for ten, `h` for sixteen, `b` for two
abbrev pub base_of : ℕ → Option ℕ
base_of c = if c == 100 then Some 10 else if c == 104 then Some 16 else if c == 98 then Some 2 else None

-- a sized number: a decimal numeral, `'`, the letter of a base, and a numeral of that base, without blanks between them
pub record SizedParts : Type 0 where
  pub width : List ℕ
  pub letter : ℕ
  pub base : ℕ
  pub digits : List ℕ

abbrev pub sized_text : SizedParts → List ℕ
sized_text s = s.width ++ 39 ∷ s.letter ∷ s.digits

pub record IsSizedLike (s : SizedParts) : Type 0 where
  pub based : base_of s.letter ≡ Some s.base
  pub width : IsNumeral 10 s.width
  pub digits : IsNumeral s.base s.digits

-- the form of a token, without limits on its length and value
pub data IsLexeme (w : List ℕ) : Type 0 where
  name_like : IsNameLike w → IsLexeme w
  number_like : IsNumeral 10 w → IsLexeme w
  sized_like : (s : SizedParts) → w ≡ sized_text s → IsSizedLike s → IsLexeme w
  symbol_like : (s : Sym) → w ≡ sym_text s → IsLexeme w

-- the numeral is short enough, and its value small enough
abbrev pub FitsNumeral : ℕ → List ℕ → Type 0
FitsNumeral base w = IsBounded base digits_max value_bound w

-- the text of a sized number with this width and this value
pub record IsSized (m n : ℕ) (w : List ℕ) (s : SizedParts) : Type 0 where
  pub joined : w ≡ sized_text s
  pub like : IsSizedLike s
  pub width_fits : FitsNumeral 10 s.width
  pub digits_fit : FitsNumeral s.base s.digits
  pub width_is : m ≡ value 10 s.width
  pub value_is : n ≡ value s.base s.digits

-- the text of a name: it is no keyword, and short enough
pub record IsSourceName (w : List ℕ) : Type 0 where
  pub like : IsNameLike w
  pub free : (k : Key) → w ≢ key_text k
  pub short : length w ≤ name_max

-- the text of a token of this kind
abbrev pub IsToken : TokenKind → List ℕ → Type 0
IsToken kinds.Name w = IsSourceName w
IsToken (kinds.Num n) w = FitsNumeral 10 w × (n ≡ value 10 w)
IsToken (kinds.Sized m n) w = (s : SizedParts) × IsSized m n w s
IsToken (kinds.Key k) w = w ≡ key_text k
IsToken (kinds.Sym s) w = w ≡ sym_text s

-- no longer prefix of the text has the form of a token
abbrev pub IsLongest : List ℕ → List ℕ → Type 0
IsLongest w rest = (u v : List ℕ) → u ++ v ≡ w ++ rest → IsLexeme u → length u ≤ length w

-- a piece of a text: a blank, a comment without its line feed, or a token
pub data Piece : Type 0 where
  Blank : ℕ → Piece
  Comment : List ℕ → Piece
  Lexeme : TokenKind → List ℕ → Piece

abbrev pub text_of : Piece → List ℕ
text_of (Blank c) = c ∷ []
text_of (Comment w) = 47 ∷ 47 ∷ w
text_of (Lexeme k w) = w

-- the text is empty, or begins with a line feed
abbrev pub EndsLine : List ℕ → Type 0
EndsLine [] = Unit {0}
EndsLine (c ∷ rest) = c ≡ 10

-- what may follow a piece: a comment runs to the end of its line, and a token is the longest that begins at its place
abbrev pub StandsBefore : Piece → List ℕ → Type 0
StandsBefore (Blank c) rest = is_blank c ≡ true
StandsBefore (Comment w) rest = (list_all (λ c. not (c == 10)) w ≡ true) × EndsLine rest
StandsBefore (Lexeme k w) rest = IsToken k w × IsLongest w rest

abbrev pub token_at : ℕ → Piece → Option Token
token_at p (Lexeme k w) = Some (record { start = p; stop = p + length w; kind = k })
token_at p _ = None

-- the text is cut into pieces, and these are its tokens
abbrev pub HasTokens : List ℕ → List Token → Type 0
HasTokens text ts = Cutting.IsCutInto text_of StandsBefore token_at text ts

-- the rule that is broken where no piece begins: E03 if the form of a token begins there, which then is too long, and otherwise E01
abbrev pub IsBrokenAt : Rule → List ℕ → Type 0
IsBrokenAt rules.E01 text = (u v : List ℕ) → text ≡ u ++ v → ¬ IsLexeme u
IsBrokenAt rules.E03 text = (u v : List ℕ) × (text ≡ u ++ v) × IsLexeme u
IsBrokenAt _ text = ⊥

-- pieces come before the place, none begins there, and this rule is broken
abbrev pub HasLexicalFault : List ℕ → Rule → ℕ → Type 0
HasLexicalFault text e place = (s : Cutting.StopsAt text_of StandsBefore token_at text place) × IsBrokenAt e s.rest

-- ---- the texts and the tokens of lists of pieces

abbrev pub text_of_all : List Piece → List ℕ
text_of_all xs = flat_map text_of xs

abbrev pub StandAll : List Piece → List ℕ → Type 0
StandAll xs rest = Cutting.StandAll text_of StandsBefore token_at xs rest

abbrev pub tokens_from : ℕ → List Piece → List Token
tokens_from p xs = Cutting.tokens_from text_of StandsBefore token_at p xs
