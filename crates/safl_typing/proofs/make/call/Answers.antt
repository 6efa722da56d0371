use Rattle.safl_typing.proofs.Common.{AreMarked, IsMarkOf, List, shown_expressions, subst, sym}
use Rattle.safl_typing.specs.declared.expression.Expression as code
use Rattle.safl_typing.specs.Rewriting.{Call}
use Rattle.safl_typing.proofs.PlainLists.{shown_expression-Call}
use Rattle.safl_typing.proofs.MarksOfParts.{called_marked}
use Rattle.safl_typing.proofs.make.call.Goals as goal

pub returns-clause-made : goal.returns-clause-made
returns-clause-made c = shown_expression-Call c.args.place c.marks_of_call-marks.result c.args.name c.args.arguments

pub returns-clause-marked : goal.returns-clause-marked
returns-clause-marked c = λ k e h.
    let m = c.marks_of_call-marks.ensures k c.args.place c.args.name e (subst (AreMarked k) (sym c.deref.ensures.value) h) in
    called_marked k c.args.place c.marks_of_call-marks.result c.args.name c.args.arguments
    (subst (λ (l : List code.Expression). IsMarkOf k (Call c.args.place c.args.name (shown_expressions l)) c.marks_of_call-marks.result) c.deref.ensures.value m) h
