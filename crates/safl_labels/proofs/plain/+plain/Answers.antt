use Rattle.safl_labels.proofs.Common.{shown_term, shown_terms, some_nodes}
use Rattle.std.proofs.Common.{rules, List, sym, subst}
use Rattle.std.proofs.lemmas.List.{nil_from_length}
use Rattle.safl_calls.specs.Labels.{IsPlainTerm, p_const, p_var, p_op, p_if, p_let, ArePlain, p_nil, p_cons}
use Rattle.safl_term.specs.declared.term.Term as declared
use Rattle.safl_labels.proofs.plain.+plain.Goals as goal

pub are_plain-are_plain-requires : goal.are_plain-are_plain-requires
are_plain-are_plain-requires t c = let some = some_nodes (shown_term c.in-Some.first.now) in search rules

pub are_plain-returns-then-is_plain : goal.are_plain-returns-then-is_plain
are_plain-returns-then-is_plain t c = λ z.
    subst (λ (x : List declared.Term). ArePlain (shown_terms x)) (sym c.in-Some.ensures.cases.0) (p_cons (c.is_plain.ensures c.if-is_plain.true) (c.are_plain.ensures z))

pub are_plain-returns : goal.are_plain-returns
are_plain-returns t c = λ z.
    subst (λ (x : List declared.Term). ArePlain (shown_terms x)) (sym (nil_from_length c.args.ts.now c.in_default.ensures.cases)) p_nil

pub is_plain-returns-in-Const : goal.is_plain-returns-in-Const
is_plain-returns-in-Const t c = λ z. subst IsPlainTerm (sym c.in-Const.ensures) p_const

pub is_plain-returns-in-Var : goal.is_plain-returns-in-Var
is_plain-returns-in-Var t c = λ z. subst IsPlainTerm (sym c.in-Var.ensures) p_var

pub is_plain-returns-then-is_plain-2 : goal.is_plain-returns-then-is_plain-2
is_plain-returns-then-is_plain-2 t c = λ z.
    subst IsPlainTerm (sym c.in-If.ensures) (p_if (c.is_plain.ensures c.if-is_plain.true) (c.is_plain-then-is_plain.ensures c.if-is_plain-2.true) (c.is_plain-then-is_plain-2.ensures z))

pub is_plain-returns-then-are_plain : goal.is_plain-returns-then-are_plain
is_plain-returns-then-are_plain t c = λ z. subst IsPlainTerm (sym c.in-Let.ensures) (p_let (c.are_plain.ensures c.if-are_plain.true) (c.is_plain-then-are_plain.ensures z))

pub is_plain-returns-in-Op : goal.is_plain-returns-in-Op
is_plain-returns-in-Op t c = λ z. subst IsPlainTerm (sym c.in-Op.ensures) (p_op (c.are_plain-in-Op.ensures z))
