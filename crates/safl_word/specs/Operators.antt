-- The operators that stand between two operands: their symbols and their layers.
use Rattle.std.specs.Prelude.{ℕ, List, [], ◌∷◌, Option, Some, None, filter, ◌==◌, if◌then◌else◌}
use Rattle.std.specs.Str.{bytes_eq}
use Rattle.safl_word.specs.declared.token.Sym.{Sym}
use Rattle.safl_word.specs.declared.token.Sym.TheVariants as syms
use Rattle.safl_word.specs.declared.primitive.Primitive.{Primitive}
use Rattle.safl_word.specs.declared.primitive.Primitive.TheVariants as prims
use Rattle.safl_word.specs.Tokens.{sym_text}

-- The symbol of an operator between two operands, and its layer: the lower the layer, the closer it binds. No layer stands in the
-- operand of `~` without parentheses, and all of them in those of `cat`, `bits` and `ext`.
abbrev pub symbol_and_layer : Primitive → Sym × ℕ
symbol_and_layer prims.Mul = (syms.Star, 0)
symbol_and_layer prims.Add = (syms.Plus, 1)
symbol_and_layer prims.Sub = (syms.Minus, 1)
symbol_and_layer prims.Shl = (syms.ShiftLeft, 2)
symbol_and_layer prims.Shr = (syms.ShiftRight, 2)
symbol_and_layer prims.Eq = (syms.Equal, 3)
symbol_and_layer prims.Ne = (syms.NotEqual, 3)
symbol_and_layer prims.Lt = (syms.Less, 3)
symbol_and_layer prims.Le = (syms.LessEqual, 3)
symbol_and_layer prims.Gt = (syms.Greater, 3)
symbol_and_layer prims.Ge = (syms.GreaterEqual, 3)
symbol_and_layer prims.And = (syms.Ampersand, 4)
symbol_and_layer prims.Xor = (syms.Caret, 5)
symbol_and_layer prims.Or = (syms.Bar, 6)
symbol_and_layer prims.Not = (syms.Tilde, 0)
symbol_and_layer _ = (syms.Tilde, 8)

abbrev pub symbol_of : Primitive → Sym
symbol_of o = (symbol_and_layer o).0

abbrev pub layer_of : Primitive → ℕ
layer_of o = (symbol_and_layer o).1

-- the operators between two operands, and those of one layer
abbrev pub operators : List Primitive
operators =
    prims.Mul ∷ prims.Add ∷ prims.Sub ∷ prims.Shl ∷ prims.Shr ∷ prims.Eq ∷ prims.Ne ∷ prims.Lt ∷ prims.Le ∷ prims.Gt ∷ prims.Ge ∷ prims.And
    ∷ prims.Xor ∷ prims.Or ∷ []

abbrev pub layer : ℕ → List Primitive
layer k = filter (λ (o : Primitive). layer_of o == k) operators

-- the operator of a list whose symbol has this text, if there is one
abbrev pub operator_with : List ℕ → List Primitive → Option Primitive
operator_with text [] = None
operator_with text (o ∷ os) = if bytes_eq (sym_text (symbol_of o)) text then Some o else operator_with text os
