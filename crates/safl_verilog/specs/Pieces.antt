-- The first piece of a text.
use Rattle.std.specs.Prelude.{ℕ, suc, ◌+◌, List, [], ◌∷◌, take, drop, Bool, not, ◌==◌, ◌&&◌, nat_le, Option, None, Some, if◌then◌else◌}
use Rattle.std.specs.Str.{bytes_eq}
use Rattle.safl_word.specs.Numerals.{is_digit}
use Rattle.safl_word.specs.Tokens.{is_blank}
use Rattle.safl_net.specs.Names.{is_start, is_part}
use Rattle.safl_verilog.specs.declared.token.Keyword.{Keyword}
use Rattle.safl_verilog.specs.declared.token.Keyword.TheVariants as keywords
use Rattle.safl_verilog.specs.declared.token.Symbol.{Symbol}
use Rattle.safl_verilog.specs.declared.token.Symbol.TheVariants as symbols
use Rattle.safl_verilog.specs.declared.token.TokenKind.{TokenKind}
use Rattle.safl_verilog.specs.declared.token.TokenKind.TheVariants as kinds
use Rattle.safl_verilog.specs.Tokens.{keyword_text, symbol_text, next_base, VerilogPiece, Blank, Line, Block, Lexeme}
use Rattle.safl_word.specs.Limits.{net_name_max}

-- how many bytes, from the first on, pass the test
abbrev pub run : (ℕ → Bool) → List ℕ → ℕ
run p [] = 0
run p (c ∷ w) = if p c then suc (run p w) else 0

-- the first element of a list whose text is this one
abbrev pub named : {A : Type 0} → (A → List ℕ) → List A → List ℕ → Option A
named text [] w = None
named text (x ∷ xs) w = if bytes_eq w (text x) then Some x else named text xs w

abbrev pub all_keywords : List Keyword
all_keywords =
    keywords.Module ∷ keywords.Endmodule ∷ keywords.Input ∷ keywords.Output ∷ keywords.Reg ∷ keywords.Wire ∷ keywords.Assign ∷ keywords.Always
    ∷ keywords.Posedge ∷ keywords.If ∷ keywords.Else ∷ []

-- symbols of one byte, and of two
abbrev pub single_symbols : List Symbol
single_symbols =
    symbols.OpenParen ∷ symbols.CloseParen ∷ symbols.Comma ∷ symbols.Semicolon ∷ symbols.OpenBracket ∷ symbols.CloseBracket ∷ symbols.Colon
    ∷ symbols.Becomes ∷ symbols.Tilde ∷ symbols.Question ∷ symbols.OpenBrace ∷ symbols.CloseBrace ∷ symbols.At ∷ symbols.Plus ∷ symbols.Minus
    ∷ symbols.Star ∷ symbols.Ampersand ∷ symbols.Bar ∷ symbols.Caret ∷ symbols.Less ∷ symbols.Greater ∷ []

abbrev pub double_symbols : List Symbol
double_symbols =
    symbols.Equal ∷ symbols.NotEqual ∷ symbols.LessEqual ∷ symbols.GreaterEqual ∷ symbols.ShiftLeft ∷ symbols.ShiftRight ∷ []

-- ---- a word: a keyword, or an identifier that is short enough

abbrev pub word_kind : Option Keyword → TokenKind
word_kind None = kinds.Identifier
word_kind (Some k) = kinds.Keyword k

abbrev pub first_bytes : TokenKind → ℕ → List ℕ → Option VerilogPiece
first_bytes kind n w = Some (Lexeme kind (take n w))

abbrev pub first_word : ℕ → List ℕ → Option VerilogPiece
first_word n w = if nat_le n net_name_max then first_bytes (word_kind (named keyword_text all_keywords (take n w))) n w else None

-- ---- a number, or a sized number

abbrev pub sized_length : ℕ → ℕ → List ℕ → ℕ
sized_length n base w = n + suc (suc (run (is_digit base) (drop (suc (suc n)) w)))

abbrev pub first_number : Option ℕ → ℕ → List ℕ → Option VerilogPiece
first_number None n w = first_bytes kinds.Number n w
first_number (Some base) n w = first_bytes kinds.Sized (sized_length n base w) w

-- ---- a symbol of two bytes, or otherwise of one

abbrev pub one_symbol : ℕ → Option Symbol → Option VerilogPiece
one_symbol c None = None
one_symbol c (Some s) = Some (Lexeme (kinds.Symbol s) (c ∷ []))

abbrev pub two_symbols : ℕ → ℕ → Option Symbol → Option VerilogPiece
two_symbols c d None = one_symbol c (named symbol_text single_symbols (c ∷ []))
two_symbols c d (Some s) = Some (Lexeme (kinds.Symbol s) (c ∷ d ∷ []))

abbrev pub first_symbol : ℕ → List ℕ → Option VerilogPiece
first_symbol c [] = one_symbol c (named symbol_text single_symbols (c ∷ []))
first_symbol c (d ∷ w) = two_symbols c d (named symbol_text double_symbols (c ∷ d ∷ []))

-- ---- a comment

-- how many bytes come before the first `*/`
abbrev pub one_more : Option ℕ → Option ℕ
one_more None = None
one_more (Some n) = Some (suc n)

abbrev pub closing : List ℕ → Option ℕ
closing [] = None
closing (c ∷ []) = None
closing (c ∷ (d ∷ w)) = if (c == 42) && (d == 47) then Some 0 else one_more (closing (d ∷ w))

abbrev pub block : List ℕ → Option ℕ → Option VerilogPiece
block w None = None
block w (Some n) = Some (Block (take n w))

abbrev pub first_comment : List ℕ → Option VerilogPiece
first_comment [] = None
first_comment (c ∷ w) =
    if c == 47 then Some (Line (take (run (λ b. not (b == 10)) w) w)) else if c == 42 then block w (closing w) else None

-- ---- the first piece, if there is one

abbrev pub piece_at : ℕ → List ℕ → Option VerilogPiece
piece_at c w =
    if is_blank c then Some (Blank c)
    else if c == 47 then first_comment w
    else if is_start c then first_word (run is_part (c ∷ w)) (c ∷ w)
    else if is_digit 10 c then first_number (next_base (drop (run (is_digit 10) (c ∷ w)) (c ∷ w))) (run (is_digit 10) (c ∷ w)) (c ∷ w)
    else first_symbol c w

unfoldable pub first_piece : List ℕ → Option VerilogPiece
first_piece [] = None
first_piece (c ∷ w) = piece_at c w
