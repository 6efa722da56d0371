-- The pieces of a file's text as it is written, and which files can be written.
use Rattle.safl_verilog.proofs.Common.{IsNumeral, Keyword, Primitive, Sort, Symbol, codes, flat_map}
use Rattle.std.proofs.Common.{◌≡◌, ℕ, List, [], ◌∷◌, ◌++◌, Bool, true, false, Some, None, Option}
use Rattle.safl_word.specs.declared.primitive.Primitive.TheVariants as prims
use Rattle.safl_verilog.specs.declared.token.Keyword.TheVariants as keywords
use Rattle.safl_verilog.specs.declared.token.Symbol.TheVariants as symbols
use Rattle.safl_verilog.specs.declared.token.TokenKind.TheVariants as kinds
use Rattle.safl_verilog.specs.declared.token.Sort.TheVariants as sorts
use Rattle.safl_verilog.specs.Tokens.{keyword_text, symbol_text, IsIdentifier, VerilogPiece, Blank, Lexeme}
use Rattle.safl_verilog.specs.Files.{Spot, RightSide, Literal, Plain, Inverted, Binary, Choice, Joined, Slice, Declaration, Statement, Assign, Always}

abbrev pub space : VerilogPiece
space = Blank 32

abbrev pub line_end : VerilogPiece
line_end = Blank 10

abbrev pub kw : Keyword → VerilogPiece
kw k = Lexeme (kinds.Keyword k) (keyword_text k)

abbrev pub sy : Symbol → VerilogPiece
sy s = Lexeme (kinds.Symbol s) (symbol_text s)

abbrev pub id : Spot → VerilogPiece
id x = Lexeme kinds.Identifier x.bytes

abbrev pub num : Spot → VerilogPiece
num x = Lexeme kinds.Number x.bytes

abbrev pub lit : Spot → VerilogPiece
lit x = Lexeme kinds.Sized x.bytes

abbrev pub keyword_of : Sort → Keyword
keyword_of sorts.Input = keywords.Input
keyword_of sorts.Output = keywords.Output
keyword_of sorts.Reg = keywords.Reg
keyword_of sorts.Wire = keywords.Wire

-- the sign of an operator; a primitive that is none has the first one
abbrev pub symbol_of : Primitive → Symbol
symbol_of prims.Sub = symbols.Minus
symbol_of prims.Mul = symbols.Star
symbol_of prims.And = symbols.Ampersand
symbol_of prims.Or = symbols.Bar
symbol_of prims.Xor = symbols.Caret
symbol_of prims.Eq = symbols.Equal
symbol_of prims.Ne = symbols.NotEqual
symbol_of prims.Lt = symbols.Less
symbol_of prims.Le = symbols.LessEqual
symbol_of prims.Gt = symbols.Greater
symbol_of prims.Ge = symbols.GreaterEqual
symbol_of prims.Shl = symbols.ShiftLeft
symbol_of prims.Shr = symbols.ShiftRight
symbol_of _ = symbols.Plus

abbrev pub is_operator : Primitive → Bool
is_operator prims.Not = false
is_operator prims.Cat = false
is_operator (prims.Bits high low) = false
is_operator (prims.Ext width) = false
is_operator _ = true

abbrev pub range_pieces : Option (Spot × Spot) → List VerilogPiece
range_pieces None = []
range_pieces (Some r) = sy symbols.OpenBracket ∷ num r.0 ∷ sy symbols.Colon ∷ num r.1 ∷ sy symbols.CloseBracket ∷ space ∷ []

abbrev pub declaration_end : Spot → List VerilogPiece
declaration_end x = id x ∷ sy symbols.Semicolon ∷ line_end ∷ []

abbrev pub declaration_pieces : Declaration → List VerilogPiece
declaration_pieces d = space ∷ space ∷ kw (keyword_of d.sort) ∷ space ∷ (range_pieces d.range ++ declaration_end d.name)

abbrev pub expression_pieces : RightSide → List VerilogPiece
expression_pieces (Literal l) = lit l ∷ []
expression_pieces (Plain a) = id a ∷ []
expression_pieces (Inverted a) = sy symbols.Tilde ∷ id a ∷ []
expression_pieces (Binary p a b) = id a ∷ space ∷ sy (symbol_of p) ∷ space ∷ id b ∷ []
expression_pieces (Choice a b c) = id a ∷ space ∷ sy symbols.Question ∷ space ∷ id b ∷ space ∷ sy symbols.Colon ∷ space ∷ id c ∷ []
expression_pieces (Joined a b) = sy symbols.OpenBrace ∷ id a ∷ sy symbols.Comma ∷ space ∷ id b ∷ sy symbols.CloseBrace ∷ []
expression_pieces (Slice a high low) = id a ∷ sy symbols.OpenBracket ∷ num high ∷ sy symbols.Colon ∷ num low ∷ sy symbols.CloseBracket ∷ []

abbrev pub statement_pieces : Statement → List VerilogPiece
statement_pieces (Assign x e) =
    space ∷ space ∷ kw keywords.Assign ∷ space ∷ id x ∷ space ∷ sy symbols.Becomes ∷ space ∷ (expression_pieces e ++ sy symbols.Semicolon ∷ line_end ∷ [])
statement_pieces (Always clock reset target initial second source) =
    space ∷ space ∷ kw keywords.Always ∷ space ∷ sy symbols.At ∷ sy symbols.OpenParen ∷ kw keywords.Posedge ∷ space ∷ id clock ∷ sy symbols.CloseParen ∷ space
    ∷ kw keywords.If ∷ space ∷ sy symbols.OpenParen ∷ id reset ∷ sy symbols.CloseParen ∷ space ∷ id target ∷ space ∷ sy symbols.LessEqual ∷ space ∷ lit initial
    ∷ sy symbols.Semicolon ∷ space ∷ kw keywords.Else ∷ space ∷ id second ∷ space ∷ sy symbols.LessEqual ∷ space ∷ id source ∷ sy symbols.Semicolon ∷ line_end ∷ []

abbrev pub port_pieces : Spot → List VerilogPiece
port_pieces x = sy symbols.Comma ∷ space ∷ id x ∷ []

abbrev pub spot_of : List ℕ → Spot
spot_of w = record { place = 0; bytes = w }

abbrev pub last_pieces : List VerilogPiece
last_pieces = kw keywords.Endmodule ∷ line_end ∷ []

abbrev pub body_pieces : List Declaration → List Statement → List VerilogPiece
body_pieces ds ss = flat_map declaration_pieces ds ++ (flat_map statement_pieces ss ++ last_pieces)

abbrev pub header_end : List VerilogPiece → List VerilogPiece
header_end body = sy symbols.CloseParen ∷ sy symbols.Semicolon ∷ line_end ∷ body

-- a file whose header begins with x
abbrev pub file_pieces : Spot → List Spot → List Declaration → List Statement → List VerilogPiece
file_pieces x xs ds ss =
    kw keywords.Module ∷ space ∷ id (spot_of (codes "safl")) ∷ space ∷ sy symbols.OpenParen ∷ id x ∷ (flat_map port_pieces xs ++ header_end (body_pieces ds ss))

-- ---- what can be written

-- a width, `'d`, and a number
pub record IsWritten (w : List ℕ) : Type 0 where
  pub width : List ℕ
  pub bits : List ℕ
  pub joined : w ≡ width ++ 39 ∷ 100 ∷ bits
  pub width_numeral : IsNumeral 10 width
  pub bits_numeral : IsNumeral 10 bits

abbrev pub IsName : Spot → Type 0
IsName x = IsIdentifier x.bytes

abbrev pub FineRange : Option (Spot × Spot) → Type 0
FineRange None = Unit {0}
FineRange (Some r) = IsNumeral 10 r.0.bytes × IsNumeral 10 r.1.bytes

pub record FineDeclaration (d : Declaration) : Type 0 where
  pub range : FineRange d.range
  pub name : IsName d.name

abbrev pub FineExpression : RightSide → Type 0
FineExpression (Literal l) = IsWritten l.bytes
FineExpression (Plain a) = IsName a
FineExpression (Inverted a) = IsName a
FineExpression (Binary p a b) = (is_operator p ≡ true) × IsName a × IsName b
FineExpression (Choice a b c) = IsName a × IsName b × IsName c
FineExpression (Joined a b) = IsName a × IsName b
FineExpression (Slice a high low) = IsName a × IsNumeral 10 high.bytes × IsNumeral 10 low.bytes

pub record FineUpdate (c r t i s v : Spot) : Type 0 where
  pub clock : IsName c
  pub reset : IsName r
  pub target : IsName t
  pub initial : IsWritten i.bytes
  pub second : IsName s
  pub source : IsName v

abbrev pub FineStatement : Statement → Type 0
FineStatement (Assign x e) = IsName x × FineExpression e
FineStatement (Always clock reset target initial second source) = FineUpdate clock reset target initial second source
