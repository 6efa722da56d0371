use Rattle.safl_typing.proofs.Common.{Bound, BoundMarked, IsMarkOf, IsMarked, List, ap, shown_bindings, shown_expression, subst, sym, ◌∙◌}
use Rattle.safl_typing.specs.declared.expression.Expression as code
use Rattle.safl_typing.specs.Rewriting.{Let}
use Rattle.safl_typing.proofs.PlainLists.{shown_expression-Let}
use Rattle.safl_typing.proofs.MarksOfParts.{binding_marked}
use Rattle.safl_typing.proofs.make.bind.Goals as goal

pub returns-clause-made : goal.returns-clause-made
returns-clause-made c = shown_expression-Let c.args.place c.marks_of_binding-marks.result c.args.bound c.in_ok-body.body
    ∙ ap (λ (z : code.Expression). Let c.args.place (shown_bindings c.args.bound.items) (shown_expression z)) c.in_ok-body.ensures.ok

pub returns-clause-marked : goal.returns-clause-marked
returns-clause-marked c = λ k hs hb.
    let m = c.marks_of_binding-marks.ensures k c.args.place (subst (BoundMarked k) (sym c.deref.ensures.value) hs) hb in
    let on : List Bound → code.Expression → Type 0 = λ l y. IsMarkOf k (Let c.args.place (shown_bindings l) (shown_expression y)) c.marks_of_binding-marks.result in
    let m1 = subst (λ (l : List Bound). on l c.args.body) c.deref.ensures.value m in
    let m2 = subst (on c.args.bound.items) (sym c.in_ok-body.ensures.ok) m1 in
    binding_marked k c.args.place c.marks_of_binding-marks.result c.args.bound c.in_ok-body.body m2 hs (subst (IsMarked k) (sym c.in_ok-body.ensures.ok) hb)
