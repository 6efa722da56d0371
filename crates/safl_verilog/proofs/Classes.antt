-- The classes of tokens by their texts are the classes by their codes.
use Rattle.safl_verilog.proofs.Common.{Keyword, Only, Primitive, Sort, Spot, Symbol, TokenKind, within}
use Rattle.std.proofs.Common.{◌≡◌, Bool, cond, [], ◌∷◌, Option, Some, None, refl, ap, bytes_eq}
use mathlib.Core.Path.{fun_ext}
use Rattle.safl_word.specs.Operators.{operator_with}
use Rattle.safl_word.specs.Operators
use Rattle.safl_verilog.specs.declared.token.Keyword.TheVariants as keywords
use Rattle.safl_verilog.specs.declared.token.Symbol.TheVariants as symbols
use Rattle.safl_verilog.specs.declared.token.TokenKind.TheVariants as kinds
use Rattle.safl_verilog.specs.Tokens.{keyword_text, symbol_text, VerilogTerminal}
use Rattle.safl_verilog.specs.Grammar.{spot, verilog_text_in, spelled_as, identifier_in, number_in, literal_in, declares}
use Rattle.safl_verilog.specs.Codes.{keyword_code, symbol_code, code_of, classed, operators, primitive_in, sort_codes, sort_in}

-- ---- keywords and symbols

by_keyword : (k l : Keyword) → bytes_eq (keyword_text k) (keyword_text l) ≡ within (Only (keyword_code k ∷ [])) (keyword_code l)
by_keyword keywords.Module keywords.Module = refl
by_keyword _ keywords.Module = refl
by_keyword _ _ = refl

by_keyword_symbol : (k : Keyword) (s : Symbol) → bytes_eq (keyword_text k) (symbol_text s) ≡ within (Only (keyword_code k ∷ [])) (symbol_code s)
by_keyword_symbol keywords.Module symbols.OpenParen = refl
by_keyword_symbol _ symbols.OpenParen = refl
by_keyword_symbol _ _ = refl

by_symbol : (s t : Symbol) → bytes_eq (symbol_text s) (symbol_text t) ≡ within (Only (symbol_code s ∷ [])) (symbol_code t)
by_symbol symbols.OpenParen symbols.OpenParen = refl
by_symbol _ symbols.OpenParen = refl
by_symbol _ _ = refl

by_symbol_keyword : (s : Symbol) (k : Keyword) → bytes_eq (symbol_text s) (keyword_text k) ≡ within (Only (symbol_code s ∷ [])) (keyword_code k)
by_symbol_keyword symbols.OpenParen keywords.Module = refl
by_symbol_keyword _ keywords.Module = refl
by_symbol_keyword _ _ = refl

keyword_test : (k : Keyword) (l : TokenKind) → bytes_eq (keyword_text k) (verilog_text_in l) ≡ within (Only (keyword_code k ∷ [])) (code_of l)
keyword_test k (kinds.Keyword l) = by_keyword k l
keyword_test k (kinds.Symbol s) = by_keyword_symbol k s
keyword_test keywords.Module _ = refl
keyword_test _ _ = refl

symbol_test : (s : Symbol) (l : TokenKind) → bytes_eq (symbol_text s) (verilog_text_in l) ≡ within (Only (symbol_code s ∷ [])) (code_of l)
symbol_test s (kinds.Keyword k) = by_symbol_keyword s k
symbol_test s (kinds.Symbol t) = by_symbol s t
symbol_test symbols.OpenParen _ = refl
symbol_test _ _ = refl

pub keyword_class : (k : Keyword) → spelled_as (keyword_text k) ≡ classed (keyword_code k ∷ []) spot
keyword_class k = fun_ext (λ (t : VerilogTerminal). ap (λ (b : Bool). cond b (Some (spot t)) None) (keyword_test k t.kind))

pub symbol_class : (s : Symbol) → spelled_as (symbol_text s) ≡ classed (symbol_code s ∷ []) spot
symbol_class s = fun_ext (λ (t : VerilogTerminal). ap (λ (b : Bool). cond b (Some (spot t)) None) (symbol_test s t.kind))

-- ---- identifiers and numbers

identifier_test : (k : TokenKind) (x : Spot) → identifier_in k x ≡ cond (within (Only (1 ∷ [])) (code_of k)) (Some x) None
identifier_test kinds.Identifier x = refl
identifier_test (kinds.Keyword keywords.Module) x = refl
identifier_test (kinds.Keyword _) x = refl
identifier_test (kinds.Symbol symbols.OpenParen) x = refl
identifier_test (kinds.Symbol _) x = refl
identifier_test _ x = refl

number_test : (k : TokenKind) (x : Spot) → number_in k x ≡ cond (within (Only (2 ∷ [])) (code_of k)) (Some x) None
number_test kinds.Identifier x = refl
number_test (kinds.Keyword keywords.Module) x = refl
number_test (kinds.Keyword _) x = refl
number_test (kinds.Symbol symbols.OpenParen) x = refl
number_test (kinds.Symbol _) x = refl
number_test _ x = refl

literal_test : (k : TokenKind) (x : Spot) → literal_in k x ≡ cond (within (Only (3 ∷ [])) (code_of k)) (Some x) None
literal_test kinds.Identifier x = refl
literal_test (kinds.Keyword keywords.Module) x = refl
literal_test (kinds.Keyword _) x = refl
literal_test (kinds.Symbol symbols.OpenParen) x = refl
literal_test (kinds.Symbol _) x = refl
literal_test _ x = refl

abbrev pub identifier_at : VerilogTerminal → Option Spot
identifier_at t = identifier_in t.kind (spot t)

abbrev pub number_at : VerilogTerminal → Option Spot
number_at t = number_in t.kind (spot t)

abbrev pub literal_at : VerilogTerminal → Option Spot
literal_at t = literal_in t.kind (spot t)

pub identifier_class : identifier_at ≡ classed (1 ∷ []) spot
identifier_class = fun_ext (λ (t : VerilogTerminal). identifier_test t.kind (spot t))

pub number_class : number_at ≡ classed (2 ∷ []) spot
number_class = fun_ext (λ (t : VerilogTerminal). number_test t.kind (spot t))

pub literal_class : literal_at ≡ classed (3 ∷ []) spot
literal_class = fun_ext (λ (t : VerilogTerminal). literal_test t.kind (spot t))

-- ---- operators and sorts

operator_test : (k : TokenKind) → operator_with (verilog_text_in k) Operators.operators ≡ cond (within (Only operators) (code_of k)) (Some (primitive_in k)) None
operator_test kinds.Identifier = refl
operator_test (kinds.Keyword keywords.Module) = refl
operator_test (kinds.Keyword _) = refl
operator_test (kinds.Symbol symbols.Plus) = refl
operator_test (kinds.Symbol _) = refl
operator_test _ = refl

abbrev pub operator_at : VerilogTerminal → Option Primitive
operator_at t = operator_with (verilog_text_in t.kind) Operators.operators

pub operator_class : operator_at ≡ classed operators (λ t. primitive_in t.kind)
operator_class = fun_ext (λ (t : VerilogTerminal). operator_test t.kind)

sort_test : (k : TokenKind) → declares k ≡ cond (within (Only sort_codes) (code_of k)) (Some (sort_in k)) None
sort_test kinds.Identifier = refl
sort_test (kinds.Keyword keywords.Input) = refl
sort_test (kinds.Keyword _) = refl
sort_test (kinds.Symbol symbols.OpenParen) = refl
sort_test (kinds.Symbol _) = refl
sort_test _ = refl

abbrev pub sort_at : VerilogTerminal → Option Sort
sort_at t = declares t.kind

pub sort_class : sort_at ≡ classed sort_codes (λ t. sort_in t.kind)
sort_class = fun_ext (λ (t : VerilogTerminal). sort_test t.kind)
