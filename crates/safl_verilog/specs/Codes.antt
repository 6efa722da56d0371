-- The codes by which the reader of Verilog files tells tokens apart, and the classes of tokens by their codes.
use Rattle.std.specs.Prelude.{ℕ, List, [], ◌∷◌, Option, Some, None, if◌then◌else◌}
use Rattle.safl_grammar.specs.Sets.{Only, within}
use Rattle.safl_word.specs.declared.primitive.Primitive.{Primitive}
use Rattle.safl_word.specs.declared.primitive.Primitive.TheVariants as prims
use Rattle.safl_verilog.specs.declared.token.Keyword.{Keyword}
use Rattle.safl_verilog.specs.declared.token.Keyword.TheVariants as keywords
use Rattle.safl_verilog.specs.declared.token.Symbol.{Symbol}
use Rattle.safl_verilog.specs.declared.token.Symbol.TheVariants as symbols
use Rattle.safl_verilog.specs.declared.token.TokenKind.{TokenKind}
use Rattle.safl_verilog.specs.declared.token.TokenKind.TheVariants as kinds
use Rattle.safl_verilog.specs.declared.token.Sort.{Sort}
use Rattle.safl_verilog.specs.declared.token.Sort.TheVariants as sorts
use Rattle.safl_verilog.specs.Tokens.{VerilogTerminal}

-- ---- codes: a number for each kind of token, which tells kinds apart. Code 0 is the end

abbrev pub keyword_code : Keyword → ℕ
keyword_code keywords.Module = 4
keyword_code keywords.Endmodule = 5
keyword_code keywords.Input = 6
keyword_code keywords.Output = 7
keyword_code keywords.Reg = 8
keyword_code keywords.Wire = 9
keyword_code keywords.Assign = 10
keyword_code keywords.Always = 11
keyword_code keywords.Posedge = 12
keyword_code keywords.If = 13
keyword_code keywords.Else = 14

abbrev pub symbol_code : Symbol → ℕ
symbol_code symbols.OpenParen = 20
symbol_code symbols.CloseParen = 21
symbol_code symbols.Comma = 22
symbol_code symbols.Semicolon = 23
symbol_code symbols.OpenBracket = 24
symbol_code symbols.CloseBracket = 25
symbol_code symbols.Colon = 26
symbol_code symbols.Becomes = 27
symbol_code symbols.Tilde = 28
symbol_code symbols.Question = 29
symbol_code symbols.OpenBrace = 30
symbol_code symbols.CloseBrace = 31
symbol_code symbols.At = 32
symbol_code symbols.Plus = 40
symbol_code symbols.Minus = 41
symbol_code symbols.Star = 42
symbol_code symbols.Ampersand = 43
symbol_code symbols.Bar = 44
symbol_code symbols.Caret = 45
symbol_code symbols.Equal = 46
symbol_code symbols.NotEqual = 47
symbol_code symbols.Less = 48
symbol_code symbols.LessEqual = 49
symbol_code symbols.Greater = 50
symbol_code symbols.GreaterEqual = 51
symbol_code symbols.ShiftLeft = 52
symbol_code symbols.ShiftRight = 53

abbrev pub code_of : TokenKind → ℕ
code_of kinds.Identifier = 1
code_of kinds.Number = 2
code_of kinds.Sized = 3
code_of (kinds.Keyword k) = keyword_code k
code_of (kinds.Symbol s) = symbol_code s

abbrev pub code : Option VerilogTerminal → ℕ
code None = 0
code (Some t) = code_of t.kind

-- a token with one of these codes, and the value that it stands for
abbrev pub classed : {A : Type 0} → List ℕ → (VerilogTerminal → A) → VerilogTerminal → Option A
classed codes value t = if within (Only codes) (code_of t.kind) then Some (value t) else None

-- the operators. Each stands for the primitive on two words
abbrev pub operators : List ℕ
operators = 40 ∷ 41 ∷ 42 ∷ 43 ∷ 44 ∷ 45 ∷ 46 ∷ 47 ∷ 48 ∷ 49 ∷ 50 ∷ 51 ∷ 52 ∷ 53 ∷ []

abbrev pub primitive_of : Symbol → Primitive
primitive_of symbols.Minus = prims.Sub
primitive_of symbols.Star = prims.Mul
primitive_of symbols.Ampersand = prims.And
primitive_of symbols.Bar = prims.Or
primitive_of symbols.Caret = prims.Xor
primitive_of symbols.Equal = prims.Eq
primitive_of symbols.NotEqual = prims.Ne
primitive_of symbols.Less = prims.Lt
primitive_of symbols.LessEqual = prims.Le
primitive_of symbols.Greater = prims.Gt
primitive_of symbols.GreaterEqual = prims.Ge
primitive_of symbols.ShiftLeft = prims.Shl
primitive_of symbols.ShiftRight = prims.Shr
primitive_of _ = prims.Add

abbrev pub primitive_in : TokenKind → Primitive
primitive_in (kinds.Symbol s) = primitive_of s
primitive_in _ = prims.Add

-- the keywords of declarations
abbrev pub sort_codes : List ℕ
sort_codes = 6 ∷ 7 ∷ 8 ∷ 9 ∷ []

abbrev pub sort_of : Keyword → Sort
sort_of keywords.Input = sorts.Input
sort_of keywords.Output = sorts.Output
sort_of keywords.Reg = sorts.Reg
sort_of _ = sorts.Wire

abbrev pub sort_in : TokenKind → Sort
sort_in (kinds.Keyword k) = sort_of k
sort_in _ = sorts.Wire
