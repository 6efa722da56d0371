use Rattle.safl_interpreter.proofs.Common.{HasWidth, Word, get_or_read, no_word, shown_terms, widths}
use Rattle.std.proofs.Common.{refl, ap, ◌∙◌, subst, arith}
use Rattle.safl_interpreter.specs.Turns.{Leave}
use Rattle.safl_interpreter.proofs.Entering as on
use Rattle.safl_interpreter.proofs.steps.enter.Goals as goal

pub returns-in-Const : goal.returns-in-Const
returns-in-Const c = λ C a. on.step_as C _ _ a c.in-Const.ensures refl (on.const_step C _ _ a c.in-Const.word)

pub index-requires : goal.index-requires
index-requires c =
    let h = c.requires in
    let l = on.slot_in c.args.slots.items c.in-Var.slot h.1 (subst (λ t. HasWidth h.0 (widths c.args.slots.items) t h.1) c.in-Var.ensures h.2) in
    omega (arith, l, c.args.slots.ok)

pub returns-in-Var : goal.returns-in-Var
returns-in-Var c =
    let h = c.requires in
    let place = on.slot_in c.args.slots.items c.in-Var.slot h.1 (subst (λ t. HasWidth h.0 (widths c.args.slots.items) t h.1) c.in-Var.ensures h.2) in
    λ C a. on.step_as C _ _ a c.in-Var.ensures (ap (λ (w : Word). Leave w c.args.now) (get_or_read c.args.slots.items c.in-Var.slot c.index.result.now place c.index.ensures no_word))
    (on.var_step C _ _ a c.in-Var.slot)

pub returns-in-If : goal.returns-in-If
returns-in-If c = λ C a. on.step_as C _ _ a c.in-If.ensures (c.begin.ensures ∙ on.begun_as _ _ refl (ap shown_terms c.from_ref-parts.ensures.value)) (on.if_step C _ _ a _ _ _)

pub returns-in-Let : goal.returns-in-Let
returns-in-Let c = λ C a. on.step_as C _ _ a c.in-Let.ensures c.begin-in-Let.ensures (on.let_step C _ _ a _ _)

pub returns-in-Op : goal.returns-in-Op
returns-in-Op c = λ C a. on.step_as C _ _ a c.in-Op.ensures c.begin-in-Op.ensures (on.op_step C _ _ a c.in-Op.p (shown_terms c.in-Op.ts.now))

pub returns-in-Call : goal.returns-in-Call
returns-in-Call c = λ C a. on.step_as C _ _ a c.in-Call.ensures c.begin-in-Call.ensures (on.call_step C _ _ a c.in-Call.f c.in-Call.field-1 (shown_terms c.in-Call.ts.now))

pub returns : goal.returns
returns c = λ C a. on.step_as C _ _ a c.in-Loop.ensures c.begin-in-Loop.ensures (on.loop_step C _ _ a c.in-Loop.f (shown_terms c.in-Loop.ts.now))
