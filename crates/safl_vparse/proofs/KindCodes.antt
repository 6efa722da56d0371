-- Kinds of tokens are told apart as their codes are.
use Rattle.safl_vparse.proofs.Common.{Keyword, Symbol, TokenKind}
use Rattle.std.proofs.Common.{◌≡◌, ◌==◌, ◌<◌, ◌≤◌, [], ◌∷◌, refl, ◌∙◌, arith}
use Rattle.safl_word.proofs.Booleans.{if_same}
use Rattle.safl_grammar.specs.Sets.{Only, within}
use Rattle.safl_verilog.specs.declared.token.Keyword.TheVariants as keywords
use Rattle.safl_verilog.specs.declared.token.Symbol.TheVariants as symbols
use Rattle.safl_verilog.specs.declared.token.TokenKind.TheVariants as kinds
use Rattle.safl_verilog.specs.contracts.token.KeywordPartialEq.TheImpl as same_keywords
use Rattle.safl_verilog.specs.contracts.token.SymbolPartialEq.TheImpl as same_symbols
use Rattle.safl_verilog.specs.contracts.token.TokenKindPartialEq.TheImpl as same_kinds
use Rattle.safl_verilog.specs.Codes.{keyword_code, symbol_code, code_of}

by_keyword : (k l : Keyword) → (same_keywords.ghosts).eq k l ≡ (keyword_code k == keyword_code l)
by_keyword keywords.Module keywords.Module = refl
by_keyword keywords.Endmodule keywords.Endmodule = refl
by_keyword keywords.Input keywords.Input = refl
by_keyword keywords.Output keywords.Output = refl
by_keyword keywords.Reg keywords.Reg = refl
by_keyword keywords.Wire keywords.Wire = refl
by_keyword keywords.Assign keywords.Assign = refl
by_keyword keywords.Always keywords.Always = refl
by_keyword keywords.Posedge keywords.Posedge = refl
by_keyword keywords.If keywords.If = refl
by_keyword keywords.Else keywords.Else = refl
by_keyword _ _ = refl

by_symbol : (s t : Symbol) → (same_symbols.ghosts).eq s t ≡ (symbol_code s == symbol_code t)
by_symbol symbols.OpenParen symbols.OpenParen = refl
by_symbol symbols.CloseParen symbols.CloseParen = refl
by_symbol symbols.Comma symbols.Comma = refl
by_symbol symbols.Semicolon symbols.Semicolon = refl
by_symbol symbols.OpenBracket symbols.OpenBracket = refl
by_symbol symbols.CloseBracket symbols.CloseBracket = refl
by_symbol symbols.Colon symbols.Colon = refl
by_symbol symbols.Becomes symbols.Becomes = refl
by_symbol symbols.Tilde symbols.Tilde = refl
by_symbol symbols.Question symbols.Question = refl
by_symbol symbols.OpenBrace symbols.OpenBrace = refl
by_symbol symbols.CloseBrace symbols.CloseBrace = refl
by_symbol symbols.At symbols.At = refl
by_symbol symbols.Plus symbols.Plus = refl
by_symbol symbols.Minus symbols.Minus = refl
by_symbol symbols.Star symbols.Star = refl
by_symbol symbols.Ampersand symbols.Ampersand = refl
by_symbol symbols.Bar symbols.Bar = refl
by_symbol symbols.Caret symbols.Caret = refl
by_symbol symbols.Equal symbols.Equal = refl
by_symbol symbols.NotEqual symbols.NotEqual = refl
by_symbol symbols.Less symbols.Less = refl
by_symbol symbols.LessEqual symbols.LessEqual = refl
by_symbol symbols.Greater symbols.Greater = refl
by_symbol symbols.GreaterEqual symbols.GreaterEqual = refl
by_symbol symbols.ShiftLeft symbols.ShiftLeft = refl
by_symbol symbols.ShiftRight symbols.ShiftRight = refl
by_symbol _ _ = refl

keyword_bounds : (k : Keyword) → (3 < keyword_code k) × (keyword_code k < 20)
keyword_bounds keywords.Module = (omega arith, omega arith)
keyword_bounds _ = (omega arith, omega arith)

symbol_bound : (s : Symbol) → 20 ≤ symbol_code s
symbol_bound symbols.OpenParen = omega arith
symbol_bound _ = omega arith

-- as the grammar's classes tell them apart
pub by_code : (k l : TokenKind) → (same_kinds.ghosts).eq k l ≡ (code_of k == code_of l)
by_code (kinds.Keyword k) (kinds.Keyword l) = by_keyword k l
by_code (kinds.Symbol s) (kinds.Symbol t) = by_symbol s t
by_code (kinds.Keyword k) (kinds.Symbol s) = grind (arith, keyword_bounds k, symbol_bound s)
by_code (kinds.Symbol s) (kinds.Keyword k) = grind (arith, keyword_bounds k, symbol_bound s)
by_code (kinds.Keyword k) _ = grind (arith, keyword_bounds k)
by_code (kinds.Symbol s) _ = grind (arith, symbol_bound s)
by_code kinds.Identifier (kinds.Keyword k) = grind (arith, keyword_bounds k)
by_code kinds.Identifier (kinds.Symbol s) = grind (arith, symbol_bound s)
by_code kinds.Identifier kinds.Identifier = refl
by_code kinds.Identifier _ = refl
by_code kinds.Number (kinds.Keyword k) = grind (arith, keyword_bounds k)
by_code kinds.Number (kinds.Symbol s) = grind (arith, symbol_bound s)
by_code kinds.Number kinds.Number = refl
by_code kinds.Number _ = refl
by_code kinds.Sized (kinds.Keyword k) = grind (arith, keyword_bounds k)
by_code kinds.Sized (kinds.Symbol s) = grind (arith, symbol_bound s)
by_code kinds.Sized kinds.Sized = refl
by_code kinds.Sized _ = refl

-- a test by kind is one by code
pub class_of : (k l : TokenKind) → (same_kinds.ghosts).eq k l ≡ within (Only (code_of l ∷ [])) (code_of k)
class_of k l = by_code k l ∙ if_same (code_of k == code_of l)
