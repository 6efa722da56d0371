use Rattle.safl_typing.proofs.Common.{List, all_flexible, ap, shown_expressions, sym, ◌∙◌}
use Rattle.std.proofs.lemmas.List.{drop_all}
use Rattle.safl_typing.specs.declared.expression.Expression as code
use Rattle.safl_typing.proofs.ListsByOne.{flexible_next, flexible_not}
use Rattle.safl_typing.proofs.MarksOfParts.{marked_at}
use Rattle.safl_typing.proofs.marks.are_flexible.Goals as goal

pub returns-then-not-is_flexible : goal.returns-then-not-is_flexible
returns-then-not-is_flexible c = λ k h.
    let m = marked_at k c.args.es.now c.loop-e.e-index c.e-item.result h c.loop-e-test.true c.e-item.is in
    sym (flexible_not c.args.es.now c.loop-e.e-index c.e-item.result c.loop-e-test.true c.e-item.is (sym (c.is_flexible.ensures k m) ∙ c.if-not-is_flexible.true) (c.loop-e.invariant k h))

pub loop-e-preserved : goal.loop-e-preserved
loop-e-preserved c = λ k h.
    let m = marked_at k c.args.es.now c.loop-e.e-index c.e-item.result h c.loop-e-test.true c.e-item.is in
    flexible_next c.args.es.now c.loop-e.e-index c.e-item.result c.loop-e-test.true c.e-item.is (sym (c.is_flexible.ensures k m) ∙ c.if-not-is_flexible.false) (c.loop-e.invariant k h)

pub returns : goal.returns
returns c = λ k h. sym (c.loop-e.invariant k h ∙ ap (λ (l : List code.Expression). all_flexible (shown_expressions l)) (drop_all c.loop-e.e-index c.args.es.now c.loop-e-test.false))
