-- The tokens of a Verilog file: how its bytes are cut into tokens, and the first place where they cannot be.
use Rattle.std.specs.Prelude.{◌≡◌, ◌≢◌, ℕ, ◌+◌, ◌≤◌, List, [], ◌∷◌, ◌++◌, length, Bool, true, false, not, ◌==◌, ◌&&◌, ◌||◌, Option, None, Some, if◌then◌else◌, codes, option_and_then}
use Rattle.std.specs.List.{list_all, flat_map}
use Rattle.safl_word.specs.Cutting
use Rattle.safl_word.specs.Numerals.{is_digit, IsNumeral}
use Rattle.safl_word.specs.Tokens.{is_blank, base_of, SizedParts, sized_text, IsSizedLike}
use Rattle.safl_word.specs.Limits.{net_name_max}
use Rattle.safl_net.specs.Names.{is_part, is_identifier}
use Rattle.safl_verilog.specs.declared.token.Keyword.{Keyword}
use Rattle.safl_verilog.specs.declared.token.Keyword.TheVariants as keywords
use Rattle.safl_verilog.specs.declared.token.Symbol.{Symbol}
use Rattle.safl_verilog.specs.declared.token.Symbol.TheVariants as symbols
use Rattle.safl_verilog.specs.declared.token.TokenKind.{TokenKind}
use Rattle.safl_verilog.specs.declared.token.TokenKind.TheVariants as kinds

abbrev pub keyword_text : Keyword → List ℕ
keyword_text keywords.Module = codes "module"
keyword_text keywords.Endmodule = codes "endmodule"
keyword_text keywords.Input = codes "input"
keyword_text keywords.Output = codes "output"
keyword_text keywords.Reg = codes "reg"
keyword_text keywords.Wire = codes "wire"
keyword_text keywords.Assign = codes "assign"
keyword_text keywords.Always = codes "always"
keyword_text keywords.Posedge = codes "posedge"
keyword_text keywords.If = codes "if"
keyword_text keywords.Else = codes "else"

abbrev pub symbol_text : Symbol → List ℕ
symbol_text symbols.OpenParen = codes "("
symbol_text symbols.CloseParen = codes ")"
symbol_text symbols.Comma = codes ","
symbol_text symbols.Semicolon = codes ";"
symbol_text symbols.OpenBracket = codes "["
symbol_text symbols.CloseBracket = codes "]"
symbol_text symbols.Colon = codes ":"
symbol_text symbols.Becomes = codes "="
symbol_text symbols.Tilde = codes "~"
symbol_text symbols.Question = codes "?"
symbol_text symbols.OpenBrace = codes "{"
symbol_text symbols.CloseBrace = codes "}"
symbol_text symbols.At = codes "@"
symbol_text symbols.Plus = codes "+"
symbol_text symbols.Minus = codes "-"
symbol_text symbols.Star = codes "*"
symbol_text symbols.Ampersand = codes "&"
symbol_text symbols.Bar = codes "|"
symbol_text symbols.Caret = codes "^"
symbol_text symbols.Equal = codes "=="
symbol_text symbols.NotEqual = codes "!="
symbol_text symbols.Less = codes "<"
symbol_text symbols.LessEqual = codes "<="
symbol_text symbols.Greater = codes ">"
symbol_text symbols.GreaterEqual = codes ">="
symbol_text symbols.ShiftLeft = codes "<<"
symbol_text symbols.ShiftRight = codes ">>"

-- the next byte, if there is one, does not pass the test
abbrev pub stops : (ℕ → Bool) → List ℕ → Bool
stops p [] = true
stops p (c ∷ rest) = not (p c)

-- the base, if a `'`, the letter of the base and a digit of it come next
abbrev pub next_base : List ℕ → Option ℕ
next_base (q ∷ (b ∷ (d ∷ rest))) = if q == 39 then option_and_then (λ (base : ℕ). if is_digit base d then Some base else None) (base_of b) else None
next_base _ = None

-- a letter or `_`, and then letters, digits, `_` and `$`; short enough, and no keyword
pub record IsIdentifier (w : List ℕ) : Type 0 where
  pub like : is_identifier w ≡ true
  pub short : length w ≤ net_name_max
  pub free : (k : Keyword) → w ≢ keyword_text k

-- The text is a token of the kind, and no longer one begins there. A sized number: a numeral, `'`, the letter of a base, its digits.
abbrev pub IsVerilogToken : TokenKind → List ℕ → List ℕ → Type 0
IsVerilogToken kinds.Identifier w rest = IsIdentifier w × (stops is_part rest ≡ true)
IsVerilogToken kinds.Number w rest = IsNumeral 10 w × (stops (is_digit 10) rest ≡ true) × (next_base rest ≡ None)
IsVerilogToken kinds.Sized w rest = (p : SizedParts) × (w ≡ sized_text p) × IsSizedLike p × (stops (is_digit p.base) rest ≡ true)
IsVerilogToken (kinds.Keyword k) w rest = (w ≡ keyword_text k) × (stops is_part rest ≡ true)
IsVerilogToken (kinds.Symbol s) w rest = (w ≡ symbol_text s) × ((t : Symbol) (c : ℕ) (v : List ℕ) → rest ≡ c ∷ v → symbol_text t ≢ w ++ c ∷ [])

-- whether a `*` is followed by a `/`
abbrev pub has_close : List ℕ → Bool
has_close (c ∷ (d ∷ w)) = ((c == 42) && (d == 47)) || has_close (d ∷ w)
has_close _ = false

-- a piece of a file: a blank, a comment to the end of its line, a comment between `/*` and `*/`, or a token
pub data VerilogPiece : Type 0 where
  Blank : ℕ → VerilogPiece
  Line : List ℕ → VerilogPiece
  Block : List ℕ → VerilogPiece
  Lexeme : TokenKind → List ℕ → VerilogPiece

abbrev pub piece_text : VerilogPiece → List ℕ
piece_text (Blank c) = c ∷ []
piece_text (Line w) = 47 ∷ 47 ∷ w
piece_text (Block w) = 47 ∷ 42 ∷ w ++ 42 ∷ 47 ∷ []
piece_text (Lexeme k w) = w

-- what may follow a piece: a comment with `//` runs to the end of the line, and one with `/*` to the first `*/`
abbrev pub StandsInVerilog : VerilogPiece → List ℕ → Type 0
StandsInVerilog (Blank c) rest = is_blank c ≡ true
StandsInVerilog (Line w) rest = (list_all (λ c. not (c == 10)) w ≡ true) × (stops (λ c. not (c == 10)) rest ≡ true)
StandsInVerilog (Block w) rest = has_close w ≡ false
StandsInVerilog (Lexeme k w) rest = IsVerilogToken k w rest

-- a token as the grammar sees it: its place, its kind, and its bytes
pub record VerilogTerminal : Type 0 where
  pub place : ℕ
  pub kind : TokenKind
  pub bytes : List ℕ

abbrev pub terminal_at : ℕ → VerilogPiece → Option VerilogTerminal
terminal_at p (Lexeme k w) = Some (record { place = p; kind = k; bytes = w })
terminal_at p _ = None

-- the text is cut into pieces, and these are its tokens
abbrev pub HasVerilogTokens : List ℕ → List VerilogTerminal → Type 0
HasVerilogTokens text ts = Cutting.IsCutInto piece_text StandsInVerilog terminal_at text ts

-- Pieces come before the place, and none begins there: a foreign byte, an identifier that is too long, or a `/*` without its end.
abbrev pub HasVerilogLexicalFault : List ℕ → ℕ → Type 0
HasVerilogLexicalFault text place = Cutting.StopsAt piece_text StandsInVerilog terminal_at text place

-- ---- the texts and the tokens of lists of pieces

abbrev pub text_of_all : List VerilogPiece → List ℕ
text_of_all xs = flat_map piece_text xs

abbrev pub StandAll : List VerilogPiece → List ℕ → Type 0
StandAll xs rest = Cutting.StandAll piece_text StandsInVerilog terminal_at xs rest

abbrev pub tokens_from : ℕ → List VerilogPiece → List VerilogTerminal
tokens_from p xs = Cutting.tokens_from piece_text StandsInVerilog terminal_at p xs

-- ---- parts by name

abbrev pub base_with : Option ℕ → ℕ → Option ℕ
base_with o d = option_and_then (λ (base : ℕ). if is_digit base d then Some base else None) o

abbrev pub IsSized : List ℕ → List ℕ → Type 0
IsSized w rest = IsVerilogToken kinds.Sized w rest
