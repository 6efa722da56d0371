use Rattle.safl_evaluate.proofs.Common.{Word, back_at, place, shown_term, some_nodes}
use Rattle.std.proofs.Common.{rules, ◌≡◌, ℕ, List, length, take, drop, Some, false, refl, sym, ap, ◌∙◌, arith, ⊎_elim}
use Rattle.safl_term.specs.Readiness.{answer, ready_from, word_of, Ready}
use Rattle.safl_term.specs.Nodes.{shown_node}
use Rattle.safl_evaluate.specs.Plain.{plain_body}
use Rattle.safl_evaluate.proofs.AsksAlong.{asks_none, asks_both}
use Rattle.safl_evaluate.proofs.PlainByParts.{says, anew_is, anew_as}
use Rattle.safl_evaluate.proofs.RunsByParts as may
use Rattle.safl_evaluate.proofs.AnswersByParts as step
use Rattle.safl_evaluate.proofs.AnswersByParts.{answer_is, forest_nodes}
use Rattle.safl_evaluate.proofs.LooksByParts as part
use Rattle.safl_evaluate.proofs.LooksByParts.{look_is, look_at, look_all_at}
use Rattle.safl_evaluate.proofs.LooksWhole as whole
use Rattle.safl_evaluate.proofs.LooksWhole.{finds_is, finds_with}
use Rattle.safl_evaluate.proofs.evaluate.+evaluate.Goals as goal

-- ---- a plain body

pub is_plain_body_at-requires : goal.is_plain_body_at-requires
is_plain_body_at-requires t c = omega (arith, c.requires.places, some_nodes (shown_term c.args.t.now))

pub keep_told-requires : goal.keep_told-requires
keep_told-requires t c = omega (arith, c.requires.cells, some_nodes (shown_term c.args.t.now))

pub conclude-requires : goal.conclude-requires
conclude-requires t c = part.may_conclude c.requires (says c.is_plain_body_at.ensures c.requires.laid.0.body c.if-is_plain_body_at.true)

pub returns-then-is_plain_body_at-clause-answer : goal.returns-then-is_plain_body_at-clause-answer
returns-then-is_plain_body_at-clause-answer t c = sym (c.conclude.ensures.answer_is (back_at c.args.facts.now.stages.now))

pub returns-then-is_plain_body_at-clause-finds : goal.returns-then-is_plain_body_at-clause-finds
returns-then-is_plain_body_at-clause-finds t c =
    finds_with (sym (whole.opened_word (word_of c.conclude.new.told)))
    (whole.finds_kept (whole.looks_concluded c.conclude.ensures (says c.is_plain_body_at.ensures c.requires.laid.0.body c.if-is_plain_body_at.true))
    (omega (arith, c.requires.cells, some_nodes (shown_term c.args.t.now))) c.keep_told.ensures)

-- ---- conditions

pub operand-requires : goal.operand-requires
operand-requires t c =
    let calls : plain_body (shown_term c.args.t.now) ≡ false = says c.is_plain_body_at.ensures c.requires.laid.0.body c.if-is_plain_body_at.false in
    look_at c.part.ensures.slots c.part.ensures.at c.part.ensures.news (part.may_condition (anew_is c.in-If.ensures (anew_as calls)) (look_is c.in-If.ensures c.requires))

pub evaluate-requires : goal.evaluate-requires
evaluate-requires t c =
    let calls : plain_body (shown_term c.args.t.now) ≡ false = says c.is_plain_body_at.ensures c.requires.laid.0.body c.if-is_plain_body_at.false in
    let h = look_is c.in-If.ensures c.requires in
    let fc = whole.finds_slots c.part.ensures.slots c.part.ensures.at c.if-operand.ensures.finds in
    let kept = part.kept_at c.args.env.now c.operand.new.env c.part.ensures.slots c.if-operand.ensures.kept in (
      search rules,
      part.may_then (omega (arith, c.operand.ensures.asks.long)) (omega (arith, c.operand.auto.env)) (omega (arith, c.operand.auto.kept))
          kept c.operand.new.word (anew_is c.in-If.ensures (anew_as calls)) h fc (sym c.bits.ensures.value ∙ c.if-bits-eq1.true) c.branch-second.ensures.slots
          (c.branch-second.ensures.at ∙ part.after_condition h) c.branch-second.ensures.news,
    )

pub after-requires : goal.after-requires
after-requires t c =
    let h = look_is c.in-If.ensures c.requires in
    omega (arith, c.branch-second.ensures.at, part.after_condition h, part.branch_place h)

pub evaluate-requires-else-bits-eq1 : goal.evaluate-requires-else-bits-eq1
evaluate-requires-else-bits-eq1 t c =
    let calls : plain_body (shown_term c.args.t.now) ≡ false = says c.is_plain_body_at.ensures c.requires.laid.0.body c.if-is_plain_body_at.false in
    let h = look_is c.in-If.ensures c.requires in
    let fc = whole.finds_slots c.part.ensures.slots c.part.ensures.at c.if-operand.ensures.finds in
    let kept = part.kept_at c.args.env.now c.operand.new.env c.part.ensures.slots c.if-operand.ensures.kept in (
      search rules,
      part.may_else (omega (arith, c.operand.ensures.asks.long)) (omega (arith, c.operand.auto.env)) (omega (arith, c.operand.auto.kept))
          kept c.operand.new.word (anew_is c.in-If.ensures (anew_as calls)) h fc (λ q. c.if-bits-eq1.false (c.bits.ensures.value ∙ q)) (c.after.ensures.slots
          ∙ c.branch-second.ensures.slots)
          (c.after.ensures.at ∙ (ap (λ (i : ℕ). (place c.args.facts.now.places.now i).next) (c.branch-second.ensures.at ∙ part.after_condition h) ∙
          part.after_then h)) (c.after.ensures.news ∙ c.branch-second.ensures.news),
    )

pub returns-then-bits-eq1-clause-answer : goal.returns-then-bits-eq1-clause-answer
returns-then-bits-eq1-clause-answer t c =
    let B = back_at c.args.facts.now.stages.now in
    let E = take c.args.spot.slots c.args.env.now in
    let fc = whole.finds_slots c.part.ensures.slots c.part.ensures.at c.if-operand.ensures.finds in
    let kept = part.kept_at c.args.env.now c.operand.new.env c.part.ensures.slots c.if-operand.ensures.kept in
    let slots = ap (λ (i : ℕ). take i c.operand.new.env) c.branch-second.ensures.slots ∙ kept in
    c.evaluate.ensures.answer ∙ (answer_is B slots refl ∙ (step.answer_then B E (shown_term c.in-If.condition.now) _ _ c.operand.new.word fc.word
    (sym c.bits.ensures.value ∙ c.if-bits-eq1.true) ∙ ap (answer B E) (sym c.in-If.ensures)))

pub returns-then-bits-eq1-clause-finds : goal.returns-then-bits-eq1-clause-finds
returns-then-bits-eq1-clause-finds t c =
    let h = look_is c.in-If.ensures c.requires in
    let fc = whole.finds_slots c.part.ensures.slots c.part.ensures.at c.if-operand.ensures.finds in
    let kept = part.kept_at c.args.env.now c.operand.new.env c.part.ensures.slots c.if-operand.ensures.kept in
    let slots = ap (λ (i : ℕ). take i c.operand.new.env) c.branch-second.ensures.slots ∙ kept in
    let looks = whole.looks_then c.operand.new.word h fc (sym c.bits.ensures.value ∙ c.if-bits-eq1.true) slots (c.branch-second.ensures.at ∙ part.after_condition h) c.evaluate.ensures.finds in
    finds_is c.in-If.ensures (finds_with (sym (whole.opened_word (word_of c.evaluate.new.told)))
    (whole.finds_kept looks (omega (arith, c.requires.cells, some_nodes (shown_term c.args.t.now), c.operand.auto.kept, c.evaluate.auto.kept))
    c.keep_told-then-bits-eq1.ensures))

pub returns-else-bits-eq1-clause-answer : goal.returns-else-bits-eq1-clause-answer
returns-else-bits-eq1-clause-answer t c =
    let B = back_at c.args.facts.now.stages.now in
    let E = take c.args.spot.slots c.args.env.now in
    let fc = whole.finds_slots c.part.ensures.slots c.part.ensures.at c.if-operand.ensures.finds in
    let kept = part.kept_at c.args.env.now c.operand.new.env c.part.ensures.slots c.if-operand.ensures.kept in
    let slots = ap (λ (i : ℕ). take i c.operand.new.env) (c.after.ensures.slots ∙ c.branch-second.ensures.slots) ∙ kept in
    c.evaluate-else-bits-eq1.ensures.answer ∙ (answer_is B slots refl ∙
    (step.answer_else B E (shown_term c.in-If.condition.now) _ _ c.operand.new.word fc.word (λ q. c.if-bits-eq1.false (c.bits.ensures.value ∙ q)) ∙
    ap (answer B E) (sym c.in-If.ensures)))

pub returns-else-bits-eq1-clause-finds : goal.returns-else-bits-eq1-clause-finds
returns-else-bits-eq1-clause-finds t c =
    let h = look_is c.in-If.ensures c.requires in
    let fc = whole.finds_slots c.part.ensures.slots c.part.ensures.at c.if-operand.ensures.finds in
    let kept = part.kept_at c.args.env.now c.operand.new.env c.part.ensures.slots c.if-operand.ensures.kept in
    let slots = ap (λ (i : ℕ). take i c.operand.new.env) (c.after.ensures.slots ∙ c.branch-second.ensures.slots) ∙ kept in
    let looks = whole.looks_else c.operand.new.word h fc (λ q. c.if-bits-eq1.false (c.bits.ensures.value ∙ q)) slots
    (c.after.ensures.at ∙ (ap (λ (i : ℕ). (place c.args.facts.now.places.now i).next) (c.branch-second.ensures.at ∙ part.after_condition h) ∙
    part.after_then h)) c.evaluate-else-bits-eq1.ensures.finds in
    finds_is c.in-If.ensures (finds_with (sym (whole.opened_word (word_of c.evaluate-else-bits-eq1.new.told)))
    (whole.finds_kept looks (omega (
      arith,
      c.requires.cells,
      some_nodes (shown_term c.args.t.now),
      c.operand.auto.kept,
      c.evaluate-else-bits-eq1.auto.kept,
    )) c.keep_told-else-bits-eq1.ensures))

pub returns-else-operand-clause-answer : goal.returns-else-operand-clause-answer
returns-else-operand-clause-answer t c =
    let B = back_at c.args.facts.now.stages.now in
    let E = take c.args.spot.slots c.args.env.now in
    let fc = whole.finds_slots c.part.ensures.slots c.part.ensures.at c.if-operand.ensures.finds in
    c.settle-else-operand.ensures ∙ (step.answer_if_not B E (shown_term c.in-If.condition.now) _ _ fc.word ∙ ap (answer B E) (sym c.in-If.ensures))

pub returns-else-operand-clause-finds : goal.returns-else-operand-clause-finds
returns-else-operand-clause-finds t c =
    let h = look_is c.in-If.ensures c.requires in
    let fc = whole.finds_slots c.part.ensures.slots c.part.ensures.at c.if-operand.ensures.finds in
    finds_is c.in-If.ensures (finds_with (ap word_of c.settle-else-operand.ensures)
    (whole.finds_kept (whole.looks_shut h fc) (omega (arith, c.requires.cells, some_nodes (shown_term c.args.t.now), c.operand.auto.kept)) c.shut.ensures))

-- ---- bindings

pub after-bindings-requires : goal.after-bindings-requires
after-bindings-requires t c =
    let h = look_is c.in-Let.ensures c.requires in
    omega (arith, c.part-in-Let.ensures.at, part.body_place h)

pub values-requires-clause-may : goal.values-requires-clause-may
values-requires-clause-may t c =
    let calls : plain_body (shown_term c.args.t.now) ≡ false = says c.is_plain_body_at.ensures c.requires.laid.0.body c.if-is_plain_body_at.false in
    let h = look_is c.in-Let.ensures c.requires in
    look_all_at (c.after-bindings.ensures.slots ∙ c.part-in-Let.ensures.slots)
    (c.after-bindings.ensures.at ∙ (ap (λ (i : ℕ). (place c.args.facts.now.places.now i).next) c.part-in-Let.ensures.at ∙ part.after_body h))
    (c.after-bindings.ensures.news ∙ c.part-in-Let.ensures.news) (part.may_bound (anew_is c.in-Let.ensures (anew_as calls)) h)

pub values-requires-clause-places : goal.values-requires-clause-places
values-requires-clause-places t c =
    let h = look_is c.in-Let.ensures c.requires in
    omega (arith, forest_nodes c.in-Let.bound.now, h.room)

pub evaluate-requires-then-values : goal.evaluate-requires-then-values
evaluate-requires-then-values t c =
    let calls : plain_body (shown_term c.args.t.now) ≡ false = says c.is_plain_body_at.ensures c.requires.laid.0.body c.if-is_plain_body_at.false in
    let count = forest_nodes c.in-Let.bound.now in
    let h = look_is c.in-Let.ensures c.requires in
    let fs = whole.finds_all_slots (c.after-bindings.ensures.slots ∙ c.part-in-Let.ensures.slots)
    (c.after-bindings.ensures.at ∙ (ap (λ (i : ℕ). (place c.args.facts.now.places.now i).next) c.part-in-Let.ensures.at ∙ part.after_body h))
    c.if-values.ensures.finds in
    let kept = part.kept_at c.args.env.now c.values.new.env (c.after-bindings.ensures.slots ∙ c.part-in-Let.ensures.slots) c.if-values.ensures.kept in (
      search rules,
      part.may_body (omega (arith, c.values.ensures.asks.long)) (omega (arith, c.values.auto.env)) (omega (arith, c.values.auto.kept))
          kept (take (length c.in-Let.bound.now) (drop c.args.spot.slots c.values.new.env)) (anew_is c.in-Let.ensures (anew_as calls)) h fs
          (ap (λ (i : ℕ). take i c.values.new.env) c.within-below.ensures.slots ∙ step.slots_and c.values.new.env
          (take c.args.spot.slots c.args.env.now) c.args.spot.slots (length c.in-Let.bound.now) kept)
          (omega (arith, c.within-below.ensures.slots, count, h.room)) c.within-below.ensures.at c.within-below.ensures.news,
    )

pub returns-then-values-clause-answer : goal.returns-then-values-clause-answer
returns-then-values-clause-answer t c =
    let B = back_at c.args.facts.now.stages.now in
    let E = take c.args.spot.slots c.args.env.now in
    let h = look_is c.in-Let.ensures c.requires in
    let fs = whole.finds_all_slots (c.after-bindings.ensures.slots ∙ c.part-in-Let.ensures.slots)
    (c.after-bindings.ensures.at ∙ (ap (λ (i : ℕ). (place c.args.facts.now.places.now i).next) c.part-in-Let.ensures.at ∙ part.after_body h))
    c.if-values.ensures.finds in
    let kept = part.kept_at c.args.env.now c.values.new.env (c.after-bindings.ensures.slots ∙ c.part-in-Let.ensures.slots) c.if-values.ensures.kept in
    let slots = ap (λ (i : ℕ). take i c.values.new.env) c.within-below.ensures.slots ∙ step.slots_and c.values.new.env
    (take c.args.spot.slots c.args.env.now) c.args.spot.slots (length c.in-Let.bound.now) kept in
    c.evaluate-then-values.ensures.answer ∙ (answer_is B slots refl ∙ (step.answer_let B E _ _ _ fs.words ∙ ap (answer B E) (sym c.in-Let.ensures)))

pub returns-then-values-clause-finds : goal.returns-then-values-clause-finds
returns-then-values-clause-finds t c =
    let h = look_is c.in-Let.ensures c.requires in
    let fs = whole.finds_all_slots (c.after-bindings.ensures.slots ∙ c.part-in-Let.ensures.slots)
    (c.after-bindings.ensures.at ∙ (ap (λ (i : ℕ). (place c.args.facts.now.places.now i).next) c.part-in-Let.ensures.at ∙ part.after_body h))
    c.if-values.ensures.finds in
    let kept = part.kept_at c.args.env.now c.values.new.env (c.after-bindings.ensures.slots ∙ c.part-in-Let.ensures.slots) c.if-values.ensures.kept in
    let slots = ap (λ (i : ℕ). take i c.values.new.env) c.within-below.ensures.slots ∙ step.slots_and c.values.new.env
    (take c.args.spot.slots c.args.env.now) c.args.spot.slots (length c.in-Let.bound.now) kept in
    let looks = whole.looks_let (take (length c.in-Let.bound.now) (drop c.args.spot.slots c.values.new.env)) h fs slots c.within-below.ensures.at c.evaluate-then-values.ensures.finds in
    finds_is c.in-Let.ensures (finds_with (sym (whole.opened_word (word_of c.evaluate-then-values.new.told)))
    (whole.finds_kept looks (omega (
      arith,
      c.requires.cells,
      some_nodes (shown_term c.args.t.now),
      c.values.auto.kept,
      c.evaluate-then-values.auto.kept,
    )) c.keep_told-then-values.ensures))

pub returns-else-values-clause-answer : goal.returns-else-values-clause-answer
returns-else-values-clause-answer t c =
    let B = back_at c.args.facts.now.stages.now in
    let E = take c.args.spot.slots c.args.env.now in
    let h = look_is c.in-Let.ensures c.requires in
    let fs = whole.finds_all_slots (c.after-bindings.ensures.slots ∙ c.part-in-Let.ensures.slots)
    (c.after-bindings.ensures.at ∙ (ap (λ (i : ℕ). (place c.args.facts.now.places.now i).next) c.part-in-Let.ensures.at ∙ part.after_body h))
    c.if-values.ensures.finds in
    c.settle-else-values.ensures ∙ (step.answer_let_not B E _ _ fs.words ∙ ap (answer B E) (sym c.in-Let.ensures))

pub returns-else-values-clause-finds : goal.returns-else-values-clause-finds
returns-else-values-clause-finds t c =
    let h = look_is c.in-Let.ensures c.requires in
    let fs = whole.finds_all_slots (c.after-bindings.ensures.slots ∙ c.part-in-Let.ensures.slots)
    (c.after-bindings.ensures.at ∙ (ap (λ (i : ℕ). (place c.args.facts.now.places.now i).next) c.part-in-Let.ensures.at ∙ part.after_body h))
    c.if-values.ensures.finds in
    finds_is c.in-Let.ensures (finds_with (ap word_of c.settle-else-values.ensures)
    (whole.finds_kept (whole.looks_let_shut h fs) (omega (arith, c.requires.cells, some_nodes (shown_term c.args.t.now), c.values.auto.kept))
    c.shut-else-values.ensures))

-- ---- tail calls

pub values-requires-in-Loop-clause-may : goal.values-requires-in-Loop-clause-may
values-requires-in-Loop-clause-may t c =
    let calls : plain_body (shown_term c.args.t.now) ≡ false = says c.is_plain_body_at.ensures c.requires.laid.0.body c.if-is_plain_body_at.false in
    look_all_at c.part-in-Loop.ensures.slots c.part-in-Loop.ensures.at c.part-in-Loop.ensures.news (part.may_loop (anew_is c.in-Loop.ensures (anew_as calls))
    (look_is c.in-Loop.ensures c.requires))

pub values-requires-in-Loop-clause-places : goal.values-requires-in-Loop-clause-places
values-requires-in-Loop-clause-places t c =
    let h = look_is c.in-Loop.ensures c.requires in
    omega (arith, forest_nodes c.in-Loop.passed.now, h.room)

pub words-requires : goal.words-requires
words-requires t c =
    let h = look_is c.in-Loop.ensures c.requires in
    omega (arith, forest_nodes c.in-Loop.passed.now, h.room, c.values-in-Loop.auto.env)

pub pass-requires : goal.pass-requires
pass-requires t c =
    let h = look_is c.in-Loop.ensures c.requires in
    let few = may.loop_few _ _ h.can in
    omega (
      arith,
      few,
      step.count_forest c.in-Loop.passed.now,
      ap (λ (l : List Word). length l) c.words.ensures,
      step.part_few
          (length c.in-Loop.passed.now) (drop c.args.spot.slots c.values-in-Loop.new.env),
    )

pub returns-then-values-2-clause-answer : goal.returns-then-values-2-clause-answer
returns-then-values-2-clause-answer t c =
    let B = back_at c.args.facts.now.stages.now in
    let E = take c.args.spot.slots c.args.env.now in
    let fs = whole.finds_all_slots c.part-in-Loop.ensures.slots c.part-in-Loop.ensures.at c.if-values-2.ensures.finds in
    c.pass.ensures ∙ (step.answer_loop B E _ c.in-Loop.h _ (fs.words ∙ ap Some (sym c.words.ensures)) ∙ ap (answer B E) (sym c.in-Loop.ensures))

pub returns-then-values-2-clause-finds : goal.returns-then-values-2-clause-finds
returns-then-values-2-clause-finds t c =
    let fs = whole.finds_all_slots c.part-in-Loop.ensures.slots c.part-in-Loop.ensures.at c.if-values-2.ensures.finds in
    finds_is c.in-Loop.ensures (finds_with (ap word_of c.pass.ensures) (whole.finds_kept (whole.looks_loop {l = c.in-Loop.h} fs)
    (omega (arith, c.requires.cells, some_nodes (shown_term c.args.t.now), c.values-in-Loop.auto.kept)) c.shut-then-values-2.ensures))

pub returns-else-values-2-clause-answer : goal.returns-else-values-2-clause-answer
returns-else-values-2-clause-answer t c =
    let B = back_at c.args.facts.now.stages.now in
    let E = take c.args.spot.slots c.args.env.now in
    let fs = whole.finds_all_slots c.part-in-Loop.ensures.slots c.part-in-Loop.ensures.at c.if-values-2.ensures.finds in
    c.settle-else-values-2.ensures ∙ (step.answer_loop_not B E _ c.in-Loop.h fs.words ∙ ap (answer B E) (sym c.in-Loop.ensures))

pub returns-else-values-2-clause-finds : goal.returns-else-values-2-clause-finds
returns-else-values-2-clause-finds t c =
    let fs = whole.finds_all_slots c.part-in-Loop.ensures.slots c.part-in-Loop.ensures.at c.if-values-2.ensures.finds in
    finds_is c.in-Loop.ensures (finds_with (ap word_of c.settle-else-values-2.ensures)
    (whole.finds_kept (whole.looks_loop {l = c.in-Loop.h} fs)
    (omega (arith, c.requires.cells, some_nodes (shown_term c.args.t.now), c.values-in-Loop.auto.kept)) c.shut-else-values-2.ensures))

-- ---- words

pub returns-in-Const-clause-answer : goal.returns-in-Const-clause-answer
returns-in-Const-clause-answer t c =
    let B = back_at c.args.facts.now.stages.now in
    let E = take c.args.spot.slots c.args.env.now in
    c.settle.ensures ∙ (sym (step.answer_const B E c.in-Const.word) ∙ ap (answer B E) (sym c.in-Const.ensures))

pub returns-in-Const-clause-finds : goal.returns-in-Const-clause-finds
returns-in-Const-clause-finds t c =
    finds_is c.in-Const.ensures (whole.finds_const c.in-Const.word (ap word_of c.settle.ensures))

pub returns-in-Var-clause-answer : goal.returns-in-Var-clause-answer
returns-in-Var-clause-answer t c =
    let B = back_at c.args.facts.now.stages.now in
    let E = take c.args.spot.slots c.args.env.now in
    let slot = may.var_place c.in-Var.slot (may.can_is refl refl c.in-Var.ensures c.requires.can) in
    let found = c.settle-in-Var.ensures ∙ (ap Ready (step.slot_is c.args.env.now c.args.spot.slots c.in-Var.slot _ slot c.index-env-slot.is) ∙ sym (step.answer_var B E c.in-Var.slot)) in
    found ∙ ap (answer B E) (sym c.in-Var.ensures)

pub returns-in-Var-clause-finds : goal.returns-in-Var-clause-finds
returns-in-Var-clause-finds t c =
    let B = back_at c.args.facts.now.stages.now in
    let E = take c.args.spot.slots c.args.env.now in
    let slot = may.var_place c.in-Var.slot (may.can_is refl refl c.in-Var.ensures c.requires.can) in
    let found = c.settle-in-Var.ensures ∙ (ap Ready (step.slot_is c.args.env.now c.args.spot.slots c.in-Var.slot _ slot c.index-env-slot.is) ∙ sym (step.answer_var B E c.in-Var.slot)) in
    finds_is c.in-Var.ensures (whole.finds_var c.in-Var.slot (ap word_of found))

pub returns-else-find-clause-answer : goal.returns-else-find-clause-answer
returns-else-find-clause-answer t c =
    let B = back_at c.args.facts.now.stages.now in
    let E = take c.args.spot.slots c.args.env.now in
    c.settle-else-find.ensures ∙ (ap ready_from c.if-find.ensures.finds.word ∙ ⊎_elim
    (λ p. step.settled_op B E _ p.0 (c.top.ensures ∙ ap shown_node p.2))
    (λ p. step.settled_call B E _ p.0 p.1 (c.top.ensures ∙ ap shown_node p.3))
    c.in-Op.is)

-- ---- the sites that are asked for

pub returns-then-is_plain_body_at-clause-asks : goal.returns-then-is_plain_body_at-clause-asks
returns-then-is_plain_body_at-clause-asks t c = asks_none c.args.asks.now

pub returns-then-bits-eq1-clause-asks : goal.returns-then-bits-eq1-clause-asks
returns-then-bits-eq1-clause-asks t c = asks_both c.operand.ensures.asks c.evaluate.ensures.asks

pub returns-else-bits-eq1-clause-asks : goal.returns-else-bits-eq1-clause-asks
returns-else-bits-eq1-clause-asks t c = asks_both c.operand.ensures.asks c.evaluate-else-bits-eq1.ensures.asks

pub returns-else-operand-clause-asks : goal.returns-else-operand-clause-asks
returns-else-operand-clause-asks t c = c.operand.ensures.asks

pub returns-then-values-clause-asks : goal.returns-then-values-clause-asks
returns-then-values-clause-asks t c = asks_both c.values.ensures.asks c.evaluate-then-values.ensures.asks

pub returns-else-values-clause-asks : goal.returns-else-values-clause-asks
returns-else-values-clause-asks t c = c.values.ensures.asks

pub returns-then-values-2-clause-asks : goal.returns-then-values-2-clause-asks
returns-then-values-2-clause-asks t c = c.values-in-Loop.ensures.asks

pub returns-else-values-2-clause-asks : goal.returns-else-values-2-clause-asks
returns-else-values-2-clause-asks t c = c.values-in-Loop.ensures.asks

pub returns-in-Const-clause-asks : goal.returns-in-Const-clause-asks
returns-in-Const-clause-asks t c = asks_none c.args.asks.now

pub returns-in-Var-clause-asks : goal.returns-in-Var-clause-asks
returns-in-Var-clause-asks t c = asks_none c.args.asks.now

pub returns-then-find-clause-asks : goal.returns-then-find-clause-asks
returns-then-find-clause-asks t c = c.find.ensures.asks

pub returns-else-find-clause-asks : goal.returns-else-find-clause-asks
returns-else-find-clause-asks t c = c.find.ensures.asks
