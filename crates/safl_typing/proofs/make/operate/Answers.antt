use Rattle.safl_typing.proofs.Common.{AreMarked, IsMarkOf, List, shown_expressions, subst, sym}
use Rattle.safl_typing.specs.declared.expression.Expression as code
use Rattle.safl_typing.specs.Rewriting.{Op}
use Rattle.safl_typing.proofs.PlainLists.{shown_expression-Op}
use Rattle.safl_typing.proofs.MarksOfParts.{applied_marked}
use Rattle.safl_typing.proofs.make.operate.Goals as goal

pub returns-clause-made : goal.returns-clause-made
returns-clause-made c = shown_expression-Op c.args.place c.marks_of_operation-marks.result c.args.operator c.args.operands

pub returns-clause-marked : goal.returns-clause-marked
returns-clause-marked c = λ k h.
    let m = c.marks_of_operation-marks.ensures k c.args.place (subst (AreMarked k) (sym c.deref.ensures.value) h) in
    applied_marked k c.args.place c.marks_of_operation-marks.result c.args.operator c.args.operands
    (subst (λ (l : List code.Expression). IsMarkOf k (Op c.args.place c.args.operator (shown_expressions l)) c.marks_of_operation-marks.result) c.deref.ensures.value m) h
