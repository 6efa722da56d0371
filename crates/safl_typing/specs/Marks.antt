-- The marks of expressions, and when they are right.
use Rattle.std.specs.Prelude.{◌≡◌, ℕ, List, [], ◌∷◌, Bool, ◌&&◌, min}
use Rattle.safl_word.specs.declared.primitive.Primitive.{Primitive}
use Rattle.safl_word.specs.Limits.{sites_counted}
use Rattle.safl_typing.specs.declared.expression.Bound.{Bound}
use Rattle.safl_typing.specs.declared.expression.Marks.{Marks}
use Rattle.safl_typing.specs.declared.expression.Expression as code
use Rattle.safl_typing.specs.declared.expression.Expression.{Row_of-Expression, end_of-Expression, more_of-Expression, Row_of-Bound, end_of-Bound, more_of-Bound}
use Rattle.safl_typing.specs.declared.expression.Expression.TheVariants as codes
use Rattle.safl_typing.specs.Rewriting.{Expression, If, Let, Op, Call, flexible}
use Rattle.safl_typing.specs.Heads.{Known, callee, is_site, sites}
use Rattle.safl_typing.specs.Plain.{shown_expression, shown_expressions, shown_bindings, shown_row, shown_bound}

-- the marks say whether the expression takes any width, and how many call sites it has, up to 4,001
pub record IsMarkOf (k : Known) (e : Expression) (m : Marks) : Type 0 where
  pub width : m.flexible ≡ flexible e
  pub counted : m.sites ≡ min sites_counted (sites k e)

-- the marks of an expression and of all its parts are right
abbrev mutual
  pub IsMarked : Known → code.Expression → Type 0
  IsMarked k (codes.Number p n) = Unit {0}
  IsMarked k (codes.Sized p w n) = Unit {0}
  IsMarked k (codes.Variable p x) = Unit {0}
  IsMarked k (codes.If' p m q1 c q2 a q3 b) =
      IsMarkOf k (If p (shown_expression c) (shown_expression a) (shown_expression b)) m × IsMarked k c × IsMarked k a × IsMarked k b
  IsMarked k (codes.Let' p m s row q b) = IsMarkOf k (Let p (shown_bound row) (shown_expression b)) m × RowBound k row × IsMarked k b
  IsMarked k (codes.Op' p m o s row) = IsMarkOf k (Op p o (shown_row row)) m × RowMarked k row
  IsMarked k (codes.Call' p m f s row) = IsMarkOf k (Call p f (shown_row row)) m × RowMarked k row

  pub RowMarked : Known → {n : _} → Row_of-Expression n → Type 0
  RowMarked k end_of-Expression = Unit {0}
  RowMarked k (more_of-Expression e row) = IsMarked k e × RowMarked k row

  pub RowBound : Known → {n : _} → Row_of-Bound n → Type 0
  RowBound k end_of-Bound = Unit {0}
  RowBound k (more_of-Bound p x w e row) = IsMarked k e × RowBound k row

-- the marks in a list of expressions are right; and in a list of bindings
abbrev pub AreMarked : Known → List code.Expression → Type 0
AreMarked k [] = Unit {0}
AreMarked k (e ∷ es) = IsMarked k e × AreMarked k es

abbrev pub BoundMarked : Known → List Bound → Type 0
BoundMarked k [] = Unit {0}
BoundMarked k (b ∷ bs) = IsMarked k b.value × BoundMarked k bs

-- both expressions take any width
abbrev pub both_flexible : code.Expression → code.Expression → Bool
both_flexible a b = flexible (shown_expression a) && flexible (shown_expression b)

-- if the marks of the parts of an if are right, these are the marks of the if
abbrev pub MarksChoice : (condition first second : code.Expression) → Marks → Type 0
MarksChoice c a b m =
    (k : Known) (p : ℕ) → IsMarked k c → IsMarked k a → IsMarked k b
    → IsMarkOf k (If p (shown_expression c) (shown_expression a) (shown_expression b)) m

-- if the marks of the parts of a let are right, these are the marks of the let
abbrev pub MarksBinding : List Bound → code.Expression → Marks → Type 0
MarksBinding bs b m = (k : Known) (p : ℕ) → BoundMarked k bs → IsMarked k b → IsMarkOf k (Let p (shown_bindings bs) (shown_expression b)) m

-- if the marks of the operands are right, these are the marks of the operator with its operands
abbrev pub MarksOperation : Primitive → List code.Expression → Marks → Type 0
MarksOperation o es m = (k : Known) (p : ℕ) → AreMarked k es → IsMarkOf k (Op p o (shown_expressions es)) m

-- if the marks of the arguments are right, these are the marks of a call, which itself counts as this many call sites
abbrev pub MarksCall : ℕ → List code.Expression → Marks → Type 0
MarksCall own es m =
    (k : Known) (p : ℕ) (f : List ℕ) → own ≡ is_site (callee k f) → AreMarked k es → IsMarkOf k (Call p f (shown_expressions es)) m
