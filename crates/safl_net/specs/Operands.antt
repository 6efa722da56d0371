-- The widths of operations by how many operands they take.
use Rattle.std.specs.Prelude.{ℕ, List, [], ◌∷◌, Option, Some, None, cond, ◌==◌, ◌&&◌}

-- a constant has no operand
abbrev pub no_operand : ℕ → List ℕ → Option ℕ
no_operand w [] = Some w
no_operand w _ = None

abbrev pub one_operand : List ℕ → Option ℕ
one_operand (a ∷ []) = Some a
one_operand _ = None

-- a condition of width 1, and two operands of one width
abbrev pub mux_operands : List ℕ → Option ℕ
mux_operands (c ∷ a ∷ b ∷ []) = cond ((c == 1) && (a == b)) (Some a) None
mux_operands _ = None
