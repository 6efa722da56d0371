use Rattle.safl_typing.proofs.Common.{AreMarked, List, ap, shown_expression, shown_expressions, subst, sym, ◌∙◌}
use Rattle.std.specs.Prelude.{ℕ}
use Rattle.safl_word.specs.declared.primitive.Primitive.TheVariants as prims
use Rattle.safl_typing.specs.declared.expression.Expression as code
use Rattle.safl_typing.specs.Rewriting.{Op, Variable, an_expression, no_expression}
use Rattle.safl_typing.proofs.make.test.Goals as goal

pub returns-clause-made : goal.returns-clause-made
returns-clause-made c = c.operate.ensures.made
    ∙ ap (λ (z : List code.Expression). Op c.args.place prims.Eq (shown_expressions z)) c.in_ok-operands.ensures.items
    ∙ ap (λ (z : List ℕ). Op c.args.place prims.Eq (an_expression (Variable c.args.place z) (an_expression (shown_expression c.args.label) no_expression))) c.in_ok-name.ensures.bytes

pub returns-clause-marked : goal.returns-clause-marked
returns-clause-marked c = λ k h. c.operate.ensures.marked k (subst (AreMarked k) (sym c.in_ok-operands.ensures.items) (tt, (h, tt)))
