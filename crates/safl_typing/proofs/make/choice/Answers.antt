use Rattle.safl_typing.proofs.Common.{IsMarkOf, IsMarked, shown_expression, subst, sym}
use Rattle.safl_typing.specs.declared.expression.Expression as code
use Rattle.safl_typing.specs.Rewriting.{If}
use Rattle.safl_typing.proofs.make.choice.Goals as goal

pub returns-clause-marked : goal.returns-clause-marked
returns-clause-marked c = λ k h1 h2 h3.
    let m = c.marks_of_choice-marks.ensures k c.args.place h1 h2 h3 in
    let on : code.Expression → code.Expression → code.Expression → Type 0 = λ x y z. IsMarkOf k
    (If c.args.place (shown_expression x) (shown_expression y) (shown_expression z)) c.marks_of_choice-marks.result in
    let m3 = subst (on c.args.condition c.args.first) (sym c.in_ok-second.ensures.ok) m in
    let m2 = subst (λ (y : code.Expression). on c.args.condition y c.in_ok-second.second.value) (sym c.in_ok-first.ensures.ok) m3 in
    let m1 = subst (λ (x : code.Expression). on x c.in_ok-first.first.value c.in_ok-second.second.value) (sym c.in_ok-condition.ensures.ok) m2 in
    (m1, subst (IsMarked k) (sym c.in_ok-condition.ensures.ok) h1, subst (IsMarked k) (sym c.in_ok-first.ensures.ok) h2, subst (IsMarked k) (sym c.in_ok-second.ensures.ok) h3)
