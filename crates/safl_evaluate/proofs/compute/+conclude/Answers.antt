use Rattle.std.proofs.Common.{rules, [], length, take, drop, refl, sym, ap, ◌∙◌, arith}
use Rattle.safl_evaluate.specs.Answers.{passed_on}
use Rattle.safl_evaluate.proofs.AnswersByParts as step
use Rattle.safl_evaluate.proofs.AnswersByParts.{forest_nodes}
use Rattle.safl_evaluate.proofs.PlainByParts as part
use Rattle.safl_evaluate.proofs.PlainByParts.{conclude_is, comes_is, concludes_is}
use Rattle.safl_evaluate.proofs.RunsByParts as may
use Rattle.safl_evaluate.proofs.compute.+conclude.Goals as goal

-- ---- conditions

pub operand-requires : goal.operand-requires
operand-requires t c =
    part.conclude_condition (conclude_is c.in-If.ensures c.requires)

pub conclude-requires : goal.conclude-requires
conclude-requires t c =
    (search rules, part.conclude_then (omega (arith, c.operand.auto.env)) c.operand.ensures.kept (conclude_is c.in-If.ensures c.requires))

pub conclude-requires-else-bits-eq1 : goal.conclude-requires-else-bits-eq1
conclude-requires-else-bits-eq1 t c =
    (search rules, part.conclude_else (omega (arith, c.operand.auto.env)) c.operand.ensures.kept (conclude_is c.in-If.ensures c.requires))

pub returns-then-bits-eq1 : goal.returns-then-bits-eq1
returns-then-bits-eq1 t c =
    concludes_is refl c.in-If.ensures (part.concludes_then c.operand.ensures.word (sym c.bits.ensures.value ∙ c.if-bits-eq1.true)
    (concludes_is (sym c.operand.ensures.kept) refl c.conclude.ensures))

pub returns-else-bits-eq1 : goal.returns-else-bits-eq1
returns-else-bits-eq1 t c =
    concludes_is refl c.in-If.ensures (part.concludes_else c.operand.ensures.word (λ q. c.if-bits-eq1.false (c.bits.ensures.value ∙ q))
    (concludes_is (sym c.operand.ensures.kept) refl c.conclude-else-bits-eq1.ensures))

-- ---- bindings

pub values-requires-clause-can : goal.values-requires-clause-can
values-requires-clause-can t c =
    part.conclude_bound (conclude_is c.in-Let.ensures c.requires)

pub values-requires-clause-places : goal.values-requires-clause-places
values-requires-clause-places t c =
    let h = conclude_is c.in-Let.ensures c.requires in
    omega (arith, forest_nodes c.in-Let.bound.now, h.room)

pub conclude-requires-in-Let : goal.conclude-requires-in-Let
conclude-requires-in-Let t c =
    let h = conclude_is c.in-Let.ensures c.requires in
    let slots = step.slots_and c.values.new.env (take c.args.slots c.args.env.now) c.args.slots (length c.in-Let.bound.now) c.values.ensures.kept in (
      search rules,
      part.conclude_body (omega (arith, c.values.auto.env)) (take (length c.in-Let.bound.now)
          (drop c.args.slots c.values.new.env)) h c.values.ensures.words
          slots (omega (arith, forest_nodes c.in-Let.bound.now, h.room)),
    )

pub returns-in-Let : goal.returns-in-Let
returns-in-Let t c =
    let slots = step.slots_and c.values.new.env (take c.args.slots c.args.env.now) c.args.slots (length c.in-Let.bound.now) c.values.ensures.kept in
    concludes_is refl c.in-Let.ensures (part.concludes_let c.values.ensures.words (concludes_is (sym slots) refl c.conclude-in-Let.ensures))

-- ---- tail calls

pub pass-requires-clause-can : goal.pass-requires-clause-can
pass-requires-clause-can t c =
    part.conclude_loop (conclude_is c.in-Loop.ensures c.requires)

pub pass-requires-clause-room : goal.pass-requires-clause-room
pass-requires-clause-room t c =
    let h = conclude_is c.in-Loop.ensures c.requires in
    record {
      member = c.in-Loop.h;
      words = [];
      is = c.begin.ensures;
      few = omega (arith, may.loop_few _ _ h.can, step.count_forest c.in-Loop.ts.now);
    }

pub returns-in-Loop : goal.returns-in-Loop
returns-in-Loop t c =
    let p = c.pass.ensures in
    concludes_is refl c.in-Loop.ensures (part.concludes_loop p.come (p.told ∙ ap (λ z. passed_on z p.words) c.begin.ensures))

-- ---- words

pub returns-in-Const : goal.returns-in-Const
returns-in-Const t c = part.concludes_word (comes_is refl c.in-Const.ensures (part.comes_const c.in-Const.number)) c.settle.ensures

pub returns-in-Var : goal.returns-in-Var
returns-in-Var t c =
    let place = may.var_place c.in-Var.slot (may.can_is refl refl c.in-Var.ensures c.requires.can) in
    part.concludes_word (comes_is refl c.in-Var.ensures (part.comes_var c.in-Var.slot
    (step.slot_is c.args.env.now c.args.slots c.in-Var.slot _ place c.index-env-slot.is))) c.settle-in-Var.ensures

pub compute-requires : goal.compute-requires
compute-requires t c =
    part.compute_is (sym c.in-Op.ensures) (part.conclude_op (conclude_is c.in-Op.ensures c.requires))

pub returns-in-Op : goal.returns-in-Op
returns-in-Op t c = part.concludes_word c.compute.ensures.word c.settle-in-Op.ensures
