-- The plain expressions of the expressions of the code.
use Rattle.std.specs.Prelude.{◌≡◌, ℕ, List, [], ◌∷◌}
use Rattle.safl_tree.specs.Tree.{Tree, Labelled, arms_of}
use Rattle.safl_typing.specs.declared.expression.Bound.{Bound}
use Rattle.safl_typing.specs.declared.expression.Expression as code
use Rattle.safl_typing.specs.declared.expression.Expression.{Row_of-Expression, end_of-Expression, more_of-Expression, Row_of-Bound, end_of-Bound, more_of-Bound}
use Rattle.safl_typing.specs.declared.expression.Expression.TheVariants as codes
use Rattle.safl_typing.specs.Rewriting.{Expression, Number, Sized, Variable, If, Let, Op, Call, Expressions, no_expression, an_expression, Bindings, no_binding, a_binding, rewritten, rewritten_arms}

abbrev mutual
  pub shown_expression : code.Expression → Expression
  shown_expression (codes.Number p n) = Number p n
  shown_expression (codes.Sized p w n) = Sized p w n
  shown_expression (codes.Variable p x) = Variable p x
  shown_expression (codes.If' p m q1 c q2 a q3 b) = If p (shown_expression c) (shown_expression a) (shown_expression b)
  shown_expression (codes.Let' p m s row q b) = Let p (shown_bound row) (shown_expression b)
  shown_expression (codes.Op' p m o s row) = Op p o (shown_row row)
  shown_expression (codes.Call' p m f s row) = Call p f (shown_row row)

  pub shown_row : {m : _} → Row_of-Expression m → Expressions
  shown_row end_of-Expression = no_expression
  shown_row (more_of-Expression e row) = an_expression (shown_expression e) (shown_row row)

  pub shown_bound : {m : _} → Row_of-Bound m → Bindings
  shown_bound end_of-Bound = no_binding
  shown_bound (more_of-Bound p x w e row) = a_binding p x w (shown_expression e) (shown_bound row)

-- the plain expressions of lists of expressions and bindings
abbrev pub shown_expressions : List code.Expression → Expressions
shown_expressions [] = no_expression
shown_expressions (e ∷ es) = an_expression (shown_expression e) (shown_expressions es)

abbrev pub shown_bindings : List Bound → Bindings
shown_bindings [] = no_binding
shown_bindings (b ∷ bs) = a_binding b.place b.name b.width (shown_expression b.value) (shown_bindings bs)

-- the expression is the arms of a `case` as ifs, over the default. The `case` has this place
abbrev pub RewritesArms : ℕ → List Labelled → (default x : code.Expression) → Type 0
RewritesArms place arms default x = (t : Tree) → shown_expression default ≡ rewritten t → shown_expression x ≡ rewritten_arms place (arms_of arms t)
