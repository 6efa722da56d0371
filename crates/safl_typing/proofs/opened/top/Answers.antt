use Rattle.safl_typing.proofs.Common.{IsMarked, ap, shown_expression, subst, ◌∙◌}
use Rattle.safl_typing.specs.declared.expression.Expression.TheVariants as codes
use Rattle.safl_typing.proofs.PlainLists.{shown_expression-Op, shown_expression-Call, shown_expression-Let}
use Rattle.safl_typing.proofs.MarksOfParts.{applied_parts, called_parts, binding_parts}
use Rattle.safl_typing.proofs.opened.top.Goals as goal

pub returns-in-If-clause-marked : goal.returns-in-If-clause-marked
returns-in-If-clause-marked c = λ k h.
    let i = c.in-If in
    let g : IsMarked k (codes.If i.place i.marks i.condition i.first i.second) = subst (IsMarked k) i.is h in
    rw (c.deref.ensures, c.deref-in-If.ensures, c.deref-in-If-2.ensures) (g.0, (g.1, g.2, g.3))

pub returns-in-Let-clause-shown : goal.returns-in-Let-clause-shown
returns-in-Let-clause-shown c =
    let i = c.in-Let in
    rw (c.deref-in-Let.ensures.value, c.deref-in-Let-2.ensures) (ap shown_expression i.is ∙ shown_expression-Let i.place i.marks i.bound i.body)

pub returns-in-Let-clause-marked : goal.returns-in-Let-clause-marked
returns-in-Let-clause-marked c = λ k h.
    let i = c.in-Let in
    rw (c.deref-in-Let.ensures.value, c.deref-in-Let-2.ensures) (binding_parts k i.place i.marks i.bound i.body (subst (IsMarked k) i.is h))

pub returns-in-Op-clause-shown : goal.returns-in-Op-clause-shown
returns-in-Op-clause-shown c =
    let i = c.in-Op in
    rw c.deref-in-Op.ensures.value (ap shown_expression i.is ∙ shown_expression-Op i.place i.marks i.operator i.operands)

pub returns-in-Op-clause-marked : goal.returns-in-Op-clause-marked
returns-in-Op-clause-marked c = λ k h.
    let i = c.in-Op in
    rw c.deref-in-Op.ensures.value (applied_parts k i.place i.marks i.operator i.operands (subst (IsMarked k) i.is h))

pub returns-in-Call-clause-shown : goal.returns-in-Call-clause-shown
returns-in-Call-clause-shown c =
    let i = c.in-Call in
    rw c.deref-in-Call.ensures.value (ap shown_expression i.is ∙ shown_expression-Call i.place i.marks i.name i.arguments)

pub returns-in-Call-clause-marked : goal.returns-in-Call-clause-marked
returns-in-Call-clause-marked c = λ k h.
    let i = c.in-Call in
    rw c.deref-in-Call.ensures.value (called_parts k i.place i.marks i.name i.arguments (subst (IsMarked k) i.is h))
