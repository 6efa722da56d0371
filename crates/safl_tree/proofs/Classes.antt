-- The classes of tokens by their texts are the classes by their codes.
use Rattle.safl_tree.proofs.Common.{Key, Only, Sym, TokenKind, key_text, sym_text, within}
use Rattle.std.proofs.Common.{◌≡◌, ℕ, Bool, cond, [], ◌∷◌, Option, Some, None, refl, ap, bytes_eq}
use mathlib.Core.Path.{fun_ext}
use Rattle.safl_word.specs.declared.token.Key.TheVariants as keys
use Rattle.safl_word.specs.declared.token.Sym.TheVariants as syms
use Rattle.safl_word.specs.declared.token.TokenKind.TheVariants as kinds
use Rattle.safl_word.specs.Operators.{layer, operator_with}
use Rattle.safl_tree.specs.Terminals.{Terminal, text_in, spelled, comes_spelled, NameAt, named, name_token, NumberAt, numbered, number_at, SizedAt, with_width, sized_at, operator_at}
use Rattle.safl_tree.specs.Codes.{word_code, symbol_code, code_of, comes, marked, name, number_in, number, width_in, value_in, sized, operators, primitive_in, operator}

-- ---- keywords and symbols

by_key : (k l : Key) → bytes_eq (key_text k) (key_text l) ≡ within (Only (word_code k ∷ [])) (word_code l)
by_key keys.Fun keys.Fun = refl
by_key _ keys.Fun = refl
by_key _ _ = refl

by_key_symbol : (k : Key) (s : Sym) → bytes_eq (key_text k) (sym_text s) ≡ within (Only (word_code k ∷ [])) (symbol_code s)
by_key_symbol keys.Fun syms.OpenParen = refl
by_key_symbol _ syms.OpenParen = refl
by_key_symbol _ _ = refl

by_symbol : (s t : Sym) → bytes_eq (sym_text s) (sym_text t) ≡ within (Only (symbol_code s ∷ [])) (symbol_code t)
by_symbol syms.OpenParen syms.OpenParen = refl
by_symbol _ syms.OpenParen = refl
by_symbol _ _ = refl

by_symbol_key : (s : Sym) (k : Key) → bytes_eq (sym_text s) (key_text k) ≡ within (Only (symbol_code s ∷ [])) (word_code k)
by_symbol_key syms.OpenParen keys.Fun = refl
by_symbol_key _ keys.Fun = refl
by_symbol_key _ _ = refl

key_test : (k : Key) (l : TokenKind) → bytes_eq (key_text k) (text_in l) ≡ within (Only (word_code k ∷ [])) (code_of l)
key_test k (kinds.Key l) = by_key k l
key_test k (kinds.Sym s) = by_key_symbol k s
key_test keys.Fun _ = refl
key_test _ _ = refl

symbol_test : (s : Sym) (l : TokenKind) → bytes_eq (sym_text s) (text_in l) ≡ within (Only (symbol_code s ∷ [])) (code_of l)
symbol_test s (kinds.Key k) = by_symbol_key s k
symbol_test s (kinds.Sym t) = by_symbol s t
symbol_test syms.OpenParen _ = refl
symbol_test _ _ = refl

pub key_class : (k : Key) → spelled (key_text k) ≡ marked (word_code k)
key_class k = fun_ext (λ (t : Terminal). ap (λ (b : Bool). cond b (Some t.place) None) (key_test k t.kind))

pub symbol_class : (s : Sym) → spelled (sym_text s) ≡ marked (symbol_code s)
symbol_class s = fun_ext (λ (t : Terminal). ap (λ (b : Bool). cond b (Some t.place) None) (symbol_test s t.kind))

pub closes : comes_spelled (sym_text syms.CloseParen) ≡ comes (symbol_code syms.CloseParen ∷ [])
closes = fun_ext by
  where
    by : (h : Option Terminal) → comes_spelled (sym_text syms.CloseParen) h ≡ comes (symbol_code syms.CloseParen ∷ []) h
    by None = refl
    by (Some t) = symbol_test syms.CloseParen t.kind

-- ---- names and numbers

name_test : (k : TokenKind) (x : NameAt) → named k x ≡ cond (within (Only (1 ∷ [])) (code_of k)) (Some x) None
name_test kinds.Name x = refl
name_test (kinds.Key keys.Fun) x = refl
name_test (kinds.Key _) x = refl
name_test (kinds.Sym syms.OpenParen) x = refl
name_test (kinds.Sym _) x = refl
name_test _ x = refl

pub name_class : name_token ≡ name
name_class = fun_ext (λ (t : Terminal). name_test t.kind (record { place = t.place; name = t.bytes }))

abbrev a_number_at : ℕ → ℕ → NumberAt
a_number_at p n = record { place = p; value = n }

number_test : (k : TokenKind) (p : ℕ) → numbered k p ≡ cond (within (Only (2 ∷ [])) (code_of k)) (Some (a_number_at p (number_in k))) None
number_test kinds.Name p = refl
number_test (kinds.Key keys.Fun) p = refl
number_test (kinds.Key _) p = refl
number_test (kinds.Sym syms.OpenParen) p = refl
number_test (kinds.Sym _) p = refl
number_test _ p = refl

pub number_class : number_at ≡ number
number_class = fun_ext (λ (t : Terminal). number_test t.kind t.place)

abbrev a_sized_at : ℕ → ℕ → ℕ → SizedAt
a_sized_at p w n = record { place = p; width = w; value = n }

sized_test : (k : TokenKind) (p : ℕ) → with_width k p ≡ cond (within (Only (3 ∷ [])) (code_of k)) (Some (a_sized_at p (width_in k) (value_in k))) None
sized_test kinds.Name p = refl
sized_test (kinds.Key keys.Fun) p = refl
sized_test (kinds.Key _) p = refl
sized_test (kinds.Sym syms.OpenParen) p = refl
sized_test (kinds.Sym _) p = refl
sized_test _ p = refl

pub sized_class : sized_at ≡ sized
sized_class = fun_ext (λ (t : Terminal). sized_test t.kind t.place)

-- ---- operators

abbrev Tests : ℕ → TokenKind → Type 0
Tests k l = operator_with (text_in l) (layer k) ≡ cond (within (Only (operators k)) (code_of l)) (Some (primitive_in l)) None

test_0 : (l : TokenKind) → Tests 0 l
test_0 kinds.Name = refl
test_0 (kinds.Key keys.Fun) = refl
test_0 (kinds.Key _) = refl
test_0 (kinds.Sym syms.Star) = refl
test_0 (kinds.Sym _) = refl
test_0 _ = refl

test_1 : (l : TokenKind) → Tests 1 l
test_1 kinds.Name = refl
test_1 (kinds.Key keys.Fun) = refl
test_1 (kinds.Key _) = refl
test_1 (kinds.Sym syms.Plus) = refl
test_1 (kinds.Sym _) = refl
test_1 _ = refl

test_2 : (l : TokenKind) → Tests 2 l
test_2 kinds.Name = refl
test_2 (kinds.Key keys.Fun) = refl
test_2 (kinds.Key _) = refl
test_2 (kinds.Sym syms.ShiftLeft) = refl
test_2 (kinds.Sym _) = refl
test_2 _ = refl

test_3 : (l : TokenKind) → Tests 3 l
test_3 kinds.Name = refl
test_3 (kinds.Key keys.Fun) = refl
test_3 (kinds.Key _) = refl
test_3 (kinds.Sym syms.Equal) = refl
test_3 (kinds.Sym _) = refl
test_3 _ = refl

test_4 : (l : TokenKind) → Tests 4 l
test_4 kinds.Name = refl
test_4 (kinds.Key keys.Fun) = refl
test_4 (kinds.Key _) = refl
test_4 (kinds.Sym syms.Ampersand) = refl
test_4 (kinds.Sym _) = refl
test_4 _ = refl

test_5 : (l : TokenKind) → Tests 5 l
test_5 kinds.Name = refl
test_5 (kinds.Key keys.Fun) = refl
test_5 (kinds.Key _) = refl
test_5 (kinds.Sym syms.Caret) = refl
test_5 (kinds.Sym _) = refl
test_5 _ = refl

test_6 : (l : TokenKind) → Tests 6 l
test_6 kinds.Name = refl
test_6 (kinds.Key keys.Fun) = refl
test_6 (kinds.Key _) = refl
test_6 (kinds.Sym syms.Bar) = refl
test_6 (kinds.Sym _) = refl
test_6 _ = refl

pub layer_0 : operator_at 0 ≡ operator 0
layer_0 = fun_ext (λ (t : Terminal). test_0 t.kind)

pub layer_1 : operator_at 1 ≡ operator 1
layer_1 = fun_ext (λ (t : Terminal). test_1 t.kind)

pub layer_2 : operator_at 2 ≡ operator 2
layer_2 = fun_ext (λ (t : Terminal). test_2 t.kind)

pub layer_3 : operator_at 3 ≡ operator 3
layer_3 = fun_ext (λ (t : Terminal). test_3 t.kind)

pub layer_4 : operator_at 4 ≡ operator 4
layer_4 = fun_ext (λ (t : Terminal). test_4 t.kind)

pub layer_5 : operator_at 5 ≡ operator 5
layer_5 = fun_ext (λ (t : Terminal). test_5 t.kind)

pub layer_6 : operator_at 6 ≡ operator 6
layer_6 = fun_ext (λ (t : Terminal). test_6 t.kind)
