-- Symbols and keywords by their texts.
use Rattle.safl_verilog.proofs.Common.{Keyword, Symbol, is_identifier, keyword_text, symbol_text}
use Rattle.std.proofs.Common.{◌≡◌, ◌≢◌, ℕ, ◌≤◌, [], ◌∷◌, length, true, Some, refl, lit≤}
use Rattle.safl_verilog.specs.declared.token.Keyword.TheVariants as keywords
use Rattle.safl_verilog.specs.declared.token.Symbol.TheVariants as symbols
use Rattle.safl_verilog.specs.Pieces.{named, all_keywords, double_symbols}

pub keyword_named : (k : Keyword) → named keyword_text all_keywords (keyword_text k) ≡ Some k
keyword_named keywords.Module = refl
keyword_named keywords.Endmodule = refl
keyword_named keywords.Input = refl
keyword_named keywords.Output = refl
keyword_named keywords.Reg = refl
keyword_named keywords.Wire = refl
keyword_named keywords.Assign = refl
keyword_named keywords.Always = refl
keyword_named keywords.Posedge = refl
keyword_named keywords.If = refl
keyword_named keywords.Else = refl

pub keyword_like : (k : Keyword) → is_identifier (keyword_text k) ≡ true
keyword_like keywords.Module = refl
keyword_like keywords.Endmodule = refl
keyword_like keywords.Input = refl
keyword_like keywords.Output = refl
keyword_like keywords.Reg = refl
keyword_like keywords.Wire = refl
keyword_like keywords.Assign = refl
keyword_like keywords.Always = refl
keyword_like keywords.Posedge = refl
keyword_like keywords.If = refl
keyword_like keywords.Else = refl

pub keyword_short : (k : Keyword) → length (keyword_text k) ≤ 200
keyword_short keywords.Module = lit≤ tt
keyword_short keywords.Endmodule = lit≤ tt
keyword_short keywords.Input = lit≤ tt
keyword_short keywords.Output = lit≤ tt
keyword_short keywords.Reg = lit≤ tt
keyword_short keywords.Wire = lit≤ tt
keyword_short keywords.Assign = lit≤ tt
keyword_short keywords.Always = lit≤ tt
keyword_short keywords.Posedge = lit≤ tt
keyword_short keywords.If = lit≤ tt
keyword_short keywords.Else = lit≤ tt

-- no symbol has three bytes
pub no_third : (t : Symbol) (c d e : ℕ) → symbol_text t ≢ c ∷ d ∷ e ∷ []
no_third symbols.OpenParen c d e h = cc
no_third symbols.CloseParen c d e h = cc
no_third symbols.Comma c d e h = cc
no_third symbols.Semicolon c d e h = cc
no_third symbols.OpenBracket c d e h = cc
no_third symbols.CloseBracket c d e h = cc
no_third symbols.Colon c d e h = cc
no_third symbols.Becomes c d e h = cc
no_third symbols.Tilde c d e h = cc
no_third symbols.Question c d e h = cc
no_third symbols.OpenBrace c d e h = cc
no_third symbols.CloseBrace c d e h = cc
no_third symbols.At c d e h = cc
no_third symbols.Plus c d e h = cc
no_third symbols.Minus c d e h = cc
no_third symbols.Star c d e h = cc
no_third symbols.Ampersand c d e h = cc
no_third symbols.Bar c d e h = cc
no_third symbols.Caret c d e h = cc
no_third symbols.Equal c d e h = cc
no_third symbols.NotEqual c d e h = cc
no_third symbols.Less c d e h = cc
no_third symbols.LessEqual c d e h = cc
no_third symbols.Greater c d e h = cc
no_third symbols.GreaterEqual c d e h = cc
no_third symbols.ShiftLeft c d e h = cc
no_third symbols.ShiftRight c d e h = cc

-- a symbol of two bytes is found among those
pub double_named : (t : Symbol) (c d : ℕ) → symbol_text t ≡ c ∷ d ∷ [] → named symbol_text double_symbols (symbol_text t) ≡ Some t
double_named symbols.OpenParen c d h = absurd cc
double_named symbols.CloseParen c d h = absurd cc
double_named symbols.Comma c d h = absurd cc
double_named symbols.Semicolon c d h = absurd cc
double_named symbols.OpenBracket c d h = absurd cc
double_named symbols.CloseBracket c d h = absurd cc
double_named symbols.Colon c d h = absurd cc
double_named symbols.Becomes c d h = absurd cc
double_named symbols.Tilde c d h = absurd cc
double_named symbols.Question c d h = absurd cc
double_named symbols.OpenBrace c d h = absurd cc
double_named symbols.CloseBrace c d h = absurd cc
double_named symbols.At c d h = absurd cc
double_named symbols.Plus c d h = absurd cc
double_named symbols.Minus c d h = absurd cc
double_named symbols.Star c d h = absurd cc
double_named symbols.Ampersand c d h = absurd cc
double_named symbols.Bar c d h = absurd cc
double_named symbols.Caret c d h = absurd cc
double_named symbols.Equal c d h = refl
double_named symbols.NotEqual c d h = refl
double_named symbols.Less c d h = absurd cc
double_named symbols.LessEqual c d h = refl
double_named symbols.Greater c d h = absurd cc
double_named symbols.GreaterEqual c d h = refl
double_named symbols.ShiftLeft c d h = refl
double_named symbols.ShiftRight c d h = refl

pub symbol_some : (s : Symbol) → 1 ≤ length (symbol_text s)
symbol_some symbols.OpenParen = lit≤ tt
symbol_some symbols.CloseParen = lit≤ tt
symbol_some symbols.Comma = lit≤ tt
symbol_some symbols.Semicolon = lit≤ tt
symbol_some symbols.OpenBracket = lit≤ tt
symbol_some symbols.CloseBracket = lit≤ tt
symbol_some symbols.Colon = lit≤ tt
symbol_some symbols.Becomes = lit≤ tt
symbol_some symbols.Tilde = lit≤ tt
symbol_some symbols.Question = lit≤ tt
symbol_some symbols.OpenBrace = lit≤ tt
symbol_some symbols.CloseBrace = lit≤ tt
symbol_some symbols.At = lit≤ tt
symbol_some symbols.Plus = lit≤ tt
symbol_some symbols.Minus = lit≤ tt
symbol_some symbols.Star = lit≤ tt
symbol_some symbols.Ampersand = lit≤ tt
symbol_some symbols.Bar = lit≤ tt
symbol_some symbols.Caret = lit≤ tt
symbol_some symbols.Equal = lit≤ tt
symbol_some symbols.NotEqual = lit≤ tt
symbol_some symbols.Less = lit≤ tt
symbol_some symbols.LessEqual = lit≤ tt
symbol_some symbols.Greater = lit≤ tt
symbol_some symbols.GreaterEqual = lit≤ tt
symbol_some symbols.ShiftLeft = lit≤ tt
symbol_some symbols.ShiftRight = lit≤ tt
