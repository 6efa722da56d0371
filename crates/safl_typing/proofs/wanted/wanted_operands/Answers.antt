use Rattle.safl_typing.proofs.Common.{List, ap, arith, operands_wanted, shown_expressions, take_all, ◌∙◌}
use Rattle.safl_typing.specs.declared.expression.Expression as code
use Rattle.safl_typing.proofs.WantedByOne.{operands_next}
use Rattle.safl_typing.proofs.MarksOfParts.{marked_at}
use Rattle.safl_typing.proofs.wanted.wanted_operands.Goals as goal

pub loop-operand-preserved : goal.loop-operand-preserved
loop-operand-preserved c = λ k h.
    operands_next c.args.shifted c.args.operands.now c.loop-operand.operand-index c.operand-item.result c.loop-operand.all.items _ c.is_flexible-flexible.result
    c.as_operand-wanted.result c.loop-operand-test.true c.operand-item.is (c.loop-operand.invariant k h) c.in_ok-push.ensures.items
    (c.is_flexible-flexible.ensures k (marked_at k c.args.operands.now c.loop-operand.operand-index c.operand-item.result h c.loop-operand-test.true c.operand-item.is))
    c.as_operand-wanted.ensures

pub returns : goal.returns
returns c = λ k h.
    c.loop-operand.invariant k h
    ∙ ap (λ (l : List code.Expression). operands_wanted c.args.shifted (shown_expressions l))
    (take_all c.loop-operand.operand-index c.args.operands.now (omega (arith, c.loop-operand-test.false)))
