use Rattle.std.proofs.Common.{List, ap, sym, ◌∙◌}
use Rattle.safl_term.specs.Terms.{Op, Call, Loop}
use Rattle.safl_term.specs.Tree.{shown_term, shown_terms}
use Rattle.safl_term.specs.declared.term.Term as declared
use Rattle.safl_term.proofs.PlainTrees.{shown_term-Let, shown_term-Op, shown_term-Call, shown_term-Loop}
use Rattle.safl_term.proofs.PlainTerms.{let_by}
use Rattle.safl_term.proofs.node.top.Goals as goal

pub returns-in-Let : goal.returns-in-Let
returns-in-Let c =
    let e = ap shown_term c.in-Let.is ∙ shown_term-Let c.in-Let.low c.in-Let.bound c.in-Let.body in
    let_by e (ap shown_terms c.deref-in-Let.ensures.value) (ap shown_term c.deref-in-Let-2.ensures)

pub returns-in-Op : goal.returns-in-Op
returns-in-Op c =
    let e = ap shown_term c.in-Op.is ∙ shown_term-Op c.in-Op.primitive c.in-Op.ts in
    e ∙ ap (λ (l : List declared.Term). Op c.in-Op.primitive (shown_terms l)) (sym c.deref-in-Op.ensures.value)

pub returns-in-Call : goal.returns-in-Call
returns-in-Call c =
    let e = ap shown_term c.in-Call.is ∙ shown_term-Call c.in-Call.callee c.in-Call.site c.in-Call.ts in
    e ∙ ap (λ (l : List declared.Term). Call c.in-Call.callee c.in-Call.site (shown_terms l)) (sym c.deref-in-Call.ensures.value)

pub returns-in-Loop : goal.returns-in-Loop
returns-in-Loop c =
    let e = ap shown_term c.in-Loop.is ∙ shown_term-Loop c.in-Loop.member c.in-Loop.ts in
    e ∙ ap (λ (l : List declared.Term). Loop c.in-Loop.member (shown_terms l)) (sym c.deref-in-Loop.ensures.value)
