-- What is read has the form of a printable program and keeps the levels: the facts of each symbol.
use Rattle.safl_tree.proofs.Common.{Definition, IsSourceName, IsToken, Key, Only, Primitive, Sym, TokenKind, cond_some, le-leb, leb-true}
use Rattle.safl_tree.proofs.Common.{ltb-true, read_limited, read_token, within}
use Rattle.std.proofs.Common.{◌≡◌, ℕ, suc, ◌<◌, ◌≤◌, leb, Bool, true, false, cond, List, [], ◌∷◌, Some, refl, sym, ap, subst, arith, zero}
use Rattle.std.specs.Prelude.{slice_get}
use Rattle.safl_grammar.specs.Syntax.{Range}
use Rattle.safl_grammar.proofs.Yields.{Yields, yields_token, yields_limited}
use Rattle.safl_word.specs.declared.token.Key.TheVariants as keys
use Rattle.safl_word.specs.declared.token.Sym.TheVariants as syms
use Rattle.safl_word.specs.declared.token.TokenKind.TheVariants as kinds
use Rattle.safl_word.specs.Limits.{width_max, value_bound}
use Rattle.safl_tree.specs.Terminals.{Terminal, NameAt, NumberAt, SizedAt}
use Rattle.safl_tree.specs.Codes.{code_of, word_code, symbol_code, marked, name, number, number_in, sized, value_in, operators, primitive_in}
use Rattle.safl_tree.specs.Grammar.{is_written_width, fits_width, fits_sized, fits_index}
use Rattle.safl_tree.specs.Reader.{read_word, read_symbol, read_width, read_index}
use Rattle.safl_tree.specs.Printable.{InRange, operands, is_binary, right_context, left_context, below_of, operator_layers, lifted, AreFormedDefinitions, IsFormedDefinition}

pub formed_at : (ds : List Definition) (i : ℕ) (d : Definition) → AreFormedDefinitions ds → slice_get ds i ≡ Some d → IsFormedDefinition d
formed_at [] i d h e = absurd cc
formed_at (x ∷ ds) zero d h e = let q : x ≡ d = cc in subst IsFormedDefinition q h.0
formed_at (x ∷ ds) (suc i) d h e = formed_at ds i d h.1 e

-- a token's bytes are a text of its kind
abbrev pub IsTerminal : Terminal → Type 0
IsTerminal t = IsToken t.kind t.bytes

-- ---- tokens of a class

name_at : (k : TokenKind) (w : List ℕ) → within (Only (1 ∷ [])) (code_of k) ≡ true → IsToken k w → IsSourceName w
name_at kinds.Name w e h = h
name_at (kinds.Num n) w e h = absurd cc
name_at (kinds.Sized m n) w e h = absurd cc
name_at (kinds.Key keys.Fun) w e h = absurd cc
name_at (kinds.Key _) w e h = absurd cc
name_at (kinds.Sym syms.OpenParen) w e h = absurd cc
name_at (kinds.Sym _) w e h = absurd cc

number_small : (k : TokenKind) (w : List ℕ) → within (Only (2 ∷ [])) (code_of k) ≡ true → IsToken k w → number_in k < value_bound
number_small kinds.Name w e h = absurd cc
number_small (kinds.Num n) w e h = subst (λ (x : ℕ). x < value_bound) (sym h.1) h.0.small
number_small (kinds.Sized m n) w e h = absurd cc
number_small (kinds.Key keys.Fun) w e h = absurd cc
number_small (kinds.Key _) w e h = absurd cc
number_small (kinds.Sym syms.OpenParen) w e h = absurd cc
number_small (kinds.Sym _) w e h = absurd cc

sized_small : (k : TokenKind) (w : List ℕ) → within (Only (3 ∷ [])) (code_of k) ≡ true → IsToken k w → value_in k < value_bound
sized_small kinds.Name w e h = absurd cc
sized_small (kinds.Num n) w e h = absurd cc
sized_small (kinds.Sized m n) w e h = subst (λ (x : ℕ). x < value_bound) (sym h.1.value_is) h.1.digits_fit.small
sized_small (kinds.Key keys.Fun) w e h = absurd cc
sized_small (kinds.Key _) w e h = absurd cc
sized_small (kinds.Sym syms.OpenParen) w e h = absurd cc
sized_small (kinds.Sym _) w e h = absurd cc

pub any_word : (k : Key) → Yields IsTerminal (read_word k) (λ p. Unit {0})
any_word k = yields_token (λ (p : ℕ). Unit {0}) (marked (word_code k)) (λ t x q e. tt)

pub any_symbol : (s : Sym) → Yields IsTerminal (read_symbol s) (λ p. Unit {0})
any_symbol s = yields_token (λ (p : ℕ). Unit {0}) (marked (symbol_code s)) (λ t x q e. tt)

abbrev pub NamedWell : NameAt → Type 0
NamedWell x = IsSourceName x.name

pub a_name : Yields IsTerminal (read_token name) NamedWell
a_name = yields_token NamedWell name (λ t x q e. let h = cond_some (within (Only (1 ∷ [])) (code_of t.kind)) _ x e in subst NamedWell h.1 (name_at t.kind t.bytes h.0 q))

abbrev pub Small : NumberAt → Type 0
Small n = n.value < value_bound

pub a_number : Yields IsTerminal (read_token number) Small
a_number = yields_token Small number (λ t x q e. let h = cond_some (within (Only (2 ∷ [])) (code_of t.kind)) _ x e in subst Small h.1 (number_small t.kind t.bytes h.0 q))

abbrev pub Wide : NumberAt → Type 0
Wide n = is_written_width n.value ≡ true

pub a_width : Yields IsTerminal read_width Wide
a_width = yields_limited Wide Range fits_width number (λ t x q e f. f)

abbrev pub Indexes : NumberAt → Type 0
Indexes n = n.value < width_max

pub an_index : Yields IsTerminal read_index Indexes
an_index = yields_limited Indexes Range fits_index number (λ t x q e f. ltb-true x.value width_max f)

abbrev pub WideSmall : SizedAt → Type 0
WideSmall s = (is_written_width s.width ≡ true) × (s.value < value_bound)

pub a_sized : Yields IsTerminal (read_limited Range fits_sized sized) WideSmall
a_sized = yields_limited WideSmall Range fits_sized sized (λ t x q e f. let h = cond_some (within (Only (3 ∷ [])) (code_of t.kind)) _ x e in
    (f, subst (λ (s : SizedAt). s.value < value_bound) h.1 (sized_small t.kind t.bytes h.0 q)))

-- ---- the layer of an operator

-- an operator of layer k: its left operand has the layers of its own chain, or those below it
pub record Layer (k left_layers : ℕ) (o : Primitive) : Type 0 where
  pub binary : is_binary o ≡ true
  pub right : right_context o ≡ k
  pub left : left_context o ≡ left_layers
  pub layers_of : operator_layers o ≡ suc k
  pub below : below_of o ≡ 0
  pub two : operands o ≡ 2
  pub range : InRange o

pub layer_0 : (t : TokenKind) → within (Only (operators 0)) (code_of t) ≡ true → Layer 0 1 (primitive_in t)
layer_0 (kinds.Sym syms.Star) e = record { binary = refl; right = refl; left = refl; layers_of = refl; below = refl; two = refl; range = tt }
layer_0 (kinds.Sym _) e = absurd cc
layer_0 (kinds.Key keys.Fun) e = absurd cc
layer_0 (kinds.Key _) e = absurd cc
layer_0 _ e = absurd cc

pub layer_1 : (t : TokenKind) → within (Only (operators 1)) (code_of t) ≡ true → Layer 1 2 (primitive_in t)
layer_1 (kinds.Sym syms.Plus) e = record { binary = refl; right = refl; left = refl; layers_of = refl; below = refl; two = refl; range = tt }
layer_1 (kinds.Sym syms.Minus) e = record { binary = refl; right = refl; left = refl; layers_of = refl; below = refl; two = refl; range = tt }
layer_1 (kinds.Sym _) e = absurd cc
layer_1 (kinds.Key keys.Fun) e = absurd cc
layer_1 (kinds.Key _) e = absurd cc
layer_1 _ e = absurd cc

pub layer_2 : (t : TokenKind) → within (Only (operators 2)) (code_of t) ≡ true → Layer 2 3 (primitive_in t)
layer_2 (kinds.Sym syms.ShiftLeft) e = record { binary = refl; right = refl; left = refl; layers_of = refl; below = refl; two = refl; range = tt }
layer_2 (kinds.Sym syms.ShiftRight) e = record { binary = refl; right = refl; left = refl; layers_of = refl; below = refl; two = refl; range = tt }
layer_2 (kinds.Sym _) e = absurd cc
layer_2 (kinds.Key keys.Fun) e = absurd cc
layer_2 (kinds.Key _) e = absurd cc
layer_2 _ e = absurd cc

pub layer_3 : (t : TokenKind) → within (Only (operators 3)) (code_of t) ≡ true → Layer 3 3 (primitive_in t)
layer_3 (kinds.Sym syms.Equal) e = record { binary = refl; right = refl; left = refl; layers_of = refl; below = refl; two = refl; range = tt }
layer_3 (kinds.Sym syms.NotEqual) e = record { binary = refl; right = refl; left = refl; layers_of = refl; below = refl; two = refl; range = tt }
layer_3 (kinds.Sym syms.Less) e = record { binary = refl; right = refl; left = refl; layers_of = refl; below = refl; two = refl; range = tt }
layer_3 (kinds.Sym syms.LessEqual) e = record { binary = refl; right = refl; left = refl; layers_of = refl; below = refl; two = refl; range = tt }
layer_3 (kinds.Sym syms.Greater) e = record { binary = refl; right = refl; left = refl; layers_of = refl; below = refl; two = refl; range = tt }
layer_3 (kinds.Sym syms.GreaterEqual) e = record { binary = refl; right = refl; left = refl; layers_of = refl; below = refl; two = refl; range = tt }
layer_3 (kinds.Sym _) e = absurd cc
layer_3 (kinds.Key keys.Fun) e = absurd cc
layer_3 (kinds.Key _) e = absurd cc
layer_3 _ e = absurd cc

pub layer_4 : (t : TokenKind) → within (Only (operators 4)) (code_of t) ≡ true → Layer 4 5 (primitive_in t)
layer_4 (kinds.Sym syms.Ampersand) e = record { binary = refl; right = refl; left = refl; layers_of = refl; below = refl; two = refl; range = tt }
layer_4 (kinds.Sym _) e = absurd cc
layer_4 (kinds.Key keys.Fun) e = absurd cc
layer_4 (kinds.Key _) e = absurd cc
layer_4 _ e = absurd cc

pub layer_5 : (t : TokenKind) → within (Only (operators 5)) (code_of t) ≡ true → Layer 5 6 (primitive_in t)
layer_5 (kinds.Sym syms.Caret) e = record { binary = refl; right = refl; left = refl; layers_of = refl; below = refl; two = refl; range = tt }
layer_5 (kinds.Sym _) e = absurd cc
layer_5 (kinds.Key keys.Fun) e = absurd cc
layer_5 (kinds.Key _) e = absurd cc
layer_5 _ e = absurd cc

pub layer_6 : (t : TokenKind) → within (Only (operators 6)) (code_of t) ≡ true → Layer 6 7 (primitive_in t)
layer_6 (kinds.Sym syms.Bar) e = record { binary = refl; right = refl; left = refl; layers_of = refl; below = refl; two = refl; range = tt }
layer_6 (kinds.Sym _) e = absurd cc
layer_6 (kinds.Key keys.Fun) e = absurd cc
layer_6 (kinds.Key _) e = absurd cc
layer_6 _ e = absurd cc

-- ---- levels

pub lift_low : (k l n : ℕ) → n ≤ lifted k l n
lift_low k l n = go (leb l k)
  where
    go : (b : Bool) → n ≤ cond b n (suc n)
    go true = omega arith
    go false = omega arith

pub lift_high : (k l n : ℕ) → lifted k l n ≤ suc n
lift_high k l n = go (leb l k)
  where
    go : (b : Bool) → cond b n (suc n) ≤ suc n
    go true = omega arith
    go false = omega arith

pub lift_in : (k l n : ℕ) → l ≤ k → lifted k l n ≡ n
lift_in k l n h = ap (λ (b : Bool). cond b n (suc n)) (le-leb l k h)

pub lift_up : (j k l n : ℕ) → j ≤ k → lifted k l n ≤ lifted j l n
lift_up j k l n h = go (leb l j) refl
  where
    go : (b : Bool) → leb l j ≡ b → lifted k l n ≤ cond b n (suc n)
    go true e = let i = lift_in k l n (omega (arith, leb-true l j e)) in omega (arith, i)
    go false e = lift_high k l n
