-- The width of an operation's result.
use Rattle.std.specs.Prelude.{ℕ, List, [], ◌∷◌, Option, Some, None, cond, ◌==◌, ◌&&◌}
use Rattle.safl_word.specs.Words.{IsWord}
use Rattle.safl_word.specs.Primitives.{result_width}
use Rattle.safl_word.specs.declared.primitive.Primitive.{Primitive}
use Rattle.safl_word.specs.declared.primitive.Primitive.TheVariants.{Ext}
use Rattle.safl_net.specs.declared.cell.Op.{Op}
use Rattle.safl_net.specs.declared.cell.Op.TheVariants.{Const, Copy, Mux, Apply}

-- the width of a primitive's cell. `Ext` has no cell: `Cat` puts the zeros before the word
abbrev pub prim_width : Primitive → List ℕ → Option ℕ
prim_width (Ext w) ws = None
prim_width p ws = result_width p ws

-- a constant has no operand, a copy one, and a choice a condition of width 1 and two operands of one width
abbrev pub op_width : Op → List ℕ → Option ℕ
op_width (Const w) [] = Some w.width
op_width Copy (a ∷ []) = Some a
op_width Mux (c ∷ a ∷ b ∷ []) = cond ((c == 1) && (a == b)) (Some a) None
op_width (Apply p) ws = prim_width p ws
op_width _ ws = None

-- the operation is no constant, or its word is one
abbrev pub HasWord : Op → Type 0
HasWord (Const w) = IsWord w
HasWord _ = Unit {0}
