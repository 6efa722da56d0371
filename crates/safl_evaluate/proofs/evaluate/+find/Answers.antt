use Rattle.safl_evaluate.proofs.Common.{Asks, Wants, Word, back_at, nil_from_length, place, shown_term, shown_terms, some_nodes, word_of}
use Rattle.std.proofs.Common.{rules, ◌≡◌, ℕ, ◌<◌, List, length, take, drop, cond, Some, None, Bool, ◌∷◌, [], slice_set, refl, sym, ap, ◌∙◌, subst, arith}
use Rattle.safl_term.specs.Terms as plain
use Rattle.safl_term.specs.declared.term.Term as declared
use Rattle.safl_evaluate.proofs.AsksAlong.{asks_none, asks_both, asks_one}
use Rattle.safl_evaluate.proofs.AnswersByParts as step
use Rattle.safl_evaluate.proofs.AnswersByParts.{forest_nodes, one_item, two_items}
use Rattle.safl_evaluate.proofs.LooksByParts as part
use Rattle.safl_evaluate.proofs.LooksByParts.{look_is, look_all_is, look_at, look_all_at}
use Rattle.safl_evaluate.proofs.LooksWhole as whole
use Rattle.safl_evaluate.proofs.LooksWhole.{finds_is, finds_with, finds_all_is}
use Rattle.safl_evaluate.proofs.PlainByParts.{says, anew_is}
use Rattle.safl_evaluate.proofs.RunsByParts as may
use Rattle.safl_evaluate.proofs.evaluate.+find.Goals as goal
use Rattle.safl_evaluate.proofs.evaluate.+find.Goals.{look-then-values-2, look-else-values-2}

-- ---- a term that is passed over, and one that is looked at

pub find-is_skipped-requires : goal.find-is_skipped-requires
find-is_skipped-requires t c = omega (arith, c.requires.places, some_nodes (shown_term c.args.t.now))

pub find-returns-then-is_skipped-clause-finds : goal.find-returns-then-is_skipped-clause-finds
find-returns-then-is_skipped-clause-finds t c =
    let skip = c.is_skipped.ensures c.if-is_skipped.true in
    let laid = c.requires.laid.0 in
    whole.finds_still skip.site skip.is c.requires.stood (λ st. let s = laid.sites skip.site st in skip.apart s.0 s.1) (omega (arith, skip.parts, laid.next)) c.recall.ensures

pub find-returns-clause-finds : goal.find-returns-clause-finds
find-returns-clause-finds t c =
    finds_with (whole.kept_word c.look-found.new.word c.look-found.result c.keep.result c.keep.ensures.ready)
    (whole.finds_kept (whole.looks_slots c.anew.ensures.slots c.anew.ensures.at c.look-found.ensures.looks)
    (omega (arith, c.requires.cells, some_nodes (shown_term c.args.t.now), c.look-found.auto.kept)) c.keep.ensures.kept)

pub find-returns-clause-kept : goal.find-returns-clause-kept
find-returns-clause-kept t c = part.kept_at c.args.env.now c.look-found.new.env c.anew.ensures.slots c.look-found.ensures.kept

pub find-is_plain_at-requires : goal.find-is_plain_at-requires
find-is_plain_at-requires t c = omega (arith, c.requires.places, some_nodes (shown_term c.args.t.now))

pub find-anew-requires : goal.find-anew-requires
find-anew-requires t c = omega (arith, c.requires.places, some_nodes (shown_term c.args.t.now))

pub find-compute_and_keep-requires-clause-at : goal.find-compute_and_keep-requires-clause-at
find-compute_and_keep-requires-clause-at t c = omega (arith, c.requires.cells, some_nodes (shown_term c.args.t.now))

pub find-compute_and_keep-requires-clause-can : goal.find-compute_and_keep-requires-clause-can
find-compute_and_keep-requires-clause-can t c =
    part.may_compute c.requires (says c.is_plain_at.ensures c.requires.laid.0.plain c.if-is_plain_at.true)

pub find-returns-then-is_plain_at-clause-finds : goal.find-returns-then-is_plain_at-clause-finds
find-returns-then-is_plain_at-clause-finds t c =
    whole.finds_kept (whole.looks_plain c.compute_and_keep.ensures.word (says c.is_plain_at.ensures c.requires.laid.0.plain c.if-is_plain_at.true))
    (omega (arith, c.requires.cells, some_nodes (shown_term c.args.t.now))) c.compute_and_keep.ensures.keeps

pub find-look-found-requires : goal.find-look-found-requires
find-look-found-requires t c =
    let body = c.requires.laid.0.body in (
      search rules,
      (
        look_at c.anew.ensures.slots c.anew.ensures.at c.anew.ensures.news (part.may_anew c.requires body),
        record { none = λ plain. c.anew.ensures.news ∙ ap (λ (b : Bool). cond b None c.args.spot.news) (body ∙ plain) },
      ),
    )

-- ---- conditions

pub look-operand-requires : goal.look-operand-requires
look-operand-requires t c = (
  search rules,
  look_at c.part.ensures.slots c.part.ensures.at c.part.ensures.news (part.may_condition (anew_is c.in-If.ensures c.requires.anew)
      (look_is c.in-If.ensures c.requires.may)),
)

pub look-operand-requires-then-bits-eq1 : goal.look-operand-requires-then-bits-eq1
look-operand-requires-then-bits-eq1 t c =
    let h = look_is c.in-If.ensures c.requires.may in
    let fc = whole.finds_slots c.part.ensures.slots c.part.ensures.at c.if-operand.ensures.finds in
    let kept = part.kept_at c.args.env.now c.operand.new.env c.part.ensures.slots c.if-operand.ensures.kept in (
      search rules,
      part.may_then (omega (arith, c.operand.ensures.asks.long)) (omega (arith, c.operand.auto.env)) (omega (arith, c.operand.auto.kept))
          kept c.operand.new.word (anew_is c.in-If.ensures c.requires.anew) h fc (sym c.bits.ensures.value ∙ c.if-bits-eq1.true) c.branch-second.ensures.slots
          (c.branch-second.ensures.at ∙ part.after_condition h) c.branch-second.ensures.news,
    )

pub look-after-requires : goal.look-after-requires
look-after-requires t c =
    let h = look_is c.in-If.ensures c.requires.may in
    omega (arith, c.branch-second.ensures.at, part.after_condition h, part.branch_place h)

pub look-operand-requires-else-bits-eq1 : goal.look-operand-requires-else-bits-eq1
look-operand-requires-else-bits-eq1 t c =
    let h = look_is c.in-If.ensures c.requires.may in
    let fc = whole.finds_slots c.part.ensures.slots c.part.ensures.at c.if-operand.ensures.finds in
    let kept = part.kept_at c.args.env.now c.operand.new.env c.part.ensures.slots c.if-operand.ensures.kept in (
      search rules,
      part.may_else (omega (arith, c.operand.ensures.asks.long)) (omega (arith, c.operand.auto.env)) (omega (arith, c.operand.auto.kept))
          kept c.operand.new.word (anew_is c.in-If.ensures c.requires.anew) h fc (λ q. c.if-bits-eq1.false (c.bits.ensures.value ∙ q)) (c.after.ensures.slots
          ∙ c.branch-second.ensures.slots)
          (c.after.ensures.at ∙ (ap (λ (i : ℕ). (place c.args.facts.now.places.now i).next) (c.branch-second.ensures.at ∙ part.after_condition h) ∙
          part.after_then h)) (c.after.ensures.news ∙ c.branch-second.ensures.news),
    )

pub look-returns-then-bits-eq1-clause-looks : goal.look-returns-then-bits-eq1-clause-looks
look-returns-then-bits-eq1-clause-looks t c =
    let h = look_is c.in-If.ensures c.requires.may in
    let fc = whole.finds_slots c.part.ensures.slots c.part.ensures.at c.if-operand.ensures.finds in
    let kept = part.kept_at c.args.env.now c.operand.new.env c.part.ensures.slots c.if-operand.ensures.kept in
    let slots = ap (λ (i : ℕ). take i c.operand.new.env) c.branch-second.ensures.slots ∙ kept in
    whole.looks_is c.in-If.ensures (whole.looks_with (whole.opened_cell c.operand-then-bits-eq1.result c.operand-then-bits-eq1.new.word c.opened.result
    c.opened.ensures) (whole.looks_then c.operand.new.word h fc (sym c.bits.ensures.value ∙ c.if-bits-eq1.true) slots
    (c.branch-second.ensures.at ∙ part.after_condition h) c.operand-then-bits-eq1.ensures.finds))

pub look-returns-else-bits-eq1-clause-looks : goal.look-returns-else-bits-eq1-clause-looks
look-returns-else-bits-eq1-clause-looks t c =
    let h = look_is c.in-If.ensures c.requires.may in
    let fc = whole.finds_slots c.part.ensures.slots c.part.ensures.at c.if-operand.ensures.finds in
    let kept = part.kept_at c.args.env.now c.operand.new.env c.part.ensures.slots c.if-operand.ensures.kept in
    let slots = ap (λ (i : ℕ). take i c.operand.new.env) (c.after.ensures.slots ∙ c.branch-second.ensures.slots) ∙ kept in
    whole.looks_is c.in-If.ensures (whole.looks_with (whole.opened_cell c.operand-else-bits-eq1.result c.operand-else-bits-eq1.new.word
    c.opened-else-bits-eq1.result c.opened-else-bits-eq1.ensures)
    (whole.looks_else c.operand.new.word h fc (λ q. c.if-bits-eq1.false (c.bits.ensures.value ∙ q)) slots
    (c.after.ensures.at ∙ (ap (λ (i : ℕ). (place c.args.facts.now.places.now i).next) (c.branch-second.ensures.at ∙ part.after_condition h) ∙
    part.after_then h)) c.operand-else-bits-eq1.ensures.finds))

pub look-returns-else-operand-clause-looks : goal.look-returns-else-operand-clause-looks
look-returns-else-operand-clause-looks t c =
    let h = look_is c.in-If.ensures c.requires.may in
    let fc = whole.finds_slots c.part.ensures.slots c.part.ensures.at c.if-operand.ensures.finds in
    whole.looks_is c.in-If.ensures (whole.looks_shut h fc)

-- ---- bindings

pub look-after-bindings-requires : goal.look-after-bindings-requires
look-after-bindings-requires t c =
    let h = look_is c.in-Let.ensures c.requires.may in
    omega (arith, c.part-in-Let.ensures.at, part.body_place h)

pub look-values-requires : goal.look-values-requires
look-values-requires t c =
    let count = forest_nodes c.in-Let.bound.now in
    let h = look_is c.in-Let.ensures c.requires.may in (
      search rules,
      (
        look_all_at (c.after-bindings.ensures.slots ∙ c.part-in-Let.ensures.slots)
            (c.after-bindings.ensures.at ∙ (ap (λ (i : ℕ). (place c.args.facts.now.places.now i).next) c.part-in-Let.ensures.at ∙ part.after_body h))
            (c.after-bindings.ensures.news ∙ c.part-in-Let.ensures.news) (part.may_bound (anew_is c.in-Let.ensures c.requires.anew) h),
        (omega (arith, count, h.room), omega (arith, c.after-bindings.ensures.slots, c.part-in-Let.ensures.slots)),
      ),
    )

pub look-operand-requires-then-values : goal.look-operand-requires-then-values
look-operand-requires-then-values t c =
    let count = forest_nodes c.in-Let.bound.now in
    let h = look_is c.in-Let.ensures c.requires.may in
    let fs = whole.finds_all_slots (c.after-bindings.ensures.slots ∙ c.part-in-Let.ensures.slots)
    (c.after-bindings.ensures.at ∙ (ap (λ (i : ℕ). (place c.args.facts.now.places.now i).next) c.part-in-Let.ensures.at ∙ part.after_body h))
    c.if-values.ensures.finds in
    let kept = part.kept_at c.args.env.now c.values.new.env (c.after-bindings.ensures.slots ∙ c.part-in-Let.ensures.slots) c.if-values.ensures.kept in (
      search rules,
      part.may_body (omega (arith, c.values.ensures.asks.long)) (omega (arith, c.values.auto.env)) (omega (arith, c.values.auto.kept))
          kept (take (length c.in-Let.bound.now) (drop c.args.spot.slots c.values.new.env)) (anew_is c.in-Let.ensures c.requires.anew) h fs
          (ap (λ (i : ℕ). take i c.values.new.env) c.within-below.ensures.slots ∙ step.slots_and c.values.new.env
          (take c.args.spot.slots c.args.env.now) c.args.spot.slots (length c.in-Let.bound.now) kept)
          (omega (arith, c.within-below.ensures.slots, count, h.room)) c.within-below.ensures.at c.within-below.ensures.news,
    )

pub look-returns-then-values-clause-looks : goal.look-returns-then-values-clause-looks
look-returns-then-values-clause-looks t c =
    let h = look_is c.in-Let.ensures c.requires.may in
    let fs = whole.finds_all_slots (c.after-bindings.ensures.slots ∙ c.part-in-Let.ensures.slots)
    (c.after-bindings.ensures.at ∙ (ap (λ (i : ℕ). (place c.args.facts.now.places.now i).next) c.part-in-Let.ensures.at ∙ part.after_body h))
    c.if-values.ensures.finds in
    let kept = part.kept_at c.args.env.now c.values.new.env (c.after-bindings.ensures.slots ∙ c.part-in-Let.ensures.slots) c.if-values.ensures.kept in
    whole.looks_is c.in-Let.ensures (whole.looks_with (whole.opened_cell c.operand-then-values.result c.operand-then-values.new.word c.opened-then-values.result
    c.opened-then-values.ensures) (whole.looks_let (take (length c.in-Let.bound.now) (drop c.args.spot.slots c.values.new.env)) h fs
    (ap (λ (i : ℕ). take i c.values.new.env) c.within-below.ensures.slots ∙ step.slots_and c.values.new.env
    (take c.args.spot.slots c.args.env.now) c.args.spot.slots (length c.in-Let.bound.now) kept) c.within-below.ensures.at
    c.operand-then-values.ensures.finds))

pub look-returns-then-values-clause-kept : goal.look-returns-then-values-clause-kept
look-returns-then-values-clause-kept t c =
    let h = look_is c.in-Let.ensures c.requires.may in
    step.slots_kept c.operand-then-values.new.env c.values.new.env c.args.spot.slots (length c.in-Let.bound.now)
    (part.kept_at c.values.new.env c.operand-then-values.new.env c.within-below.ensures.slots c.operand-then-values.ensures.kept) ∙ part.kept_at
    c.args.env.now c.values.new.env (c.after-bindings.ensures.slots ∙ c.part-in-Let.ensures.slots) c.if-values.ensures.kept

pub look-returns-else-values-clause-looks : goal.look-returns-else-values-clause-looks
look-returns-else-values-clause-looks t c =
    let h = look_is c.in-Let.ensures c.requires.may in
    let fs = whole.finds_all_slots (c.after-bindings.ensures.slots ∙ c.part-in-Let.ensures.slots)
    (c.after-bindings.ensures.at ∙ (ap (λ (i : ℕ). (place c.args.facts.now.places.now i).next) c.part-in-Let.ensures.at ∙ part.after_body h))
    c.if-values.ensures.finds in
    whole.looks_is c.in-Let.ensures (whole.looks_let_shut h fs)

-- ---- operators

pub look-pair-requires : goal.look-pair-requires
look-pair-requires t c =
    let h = look_is c.in-Op.ensures c.requires.may in
    let few = may.op_few c.in-Op.p _ h.can in
    let count = step.count_forest c.in-Op.operands.now in (
      search rules,
      (
        look_all_at c.part-in-Op.ensures.slots c.part-in-Op.ensures.at c.part-in-Op.ensures.news (part.may_op (anew_is c.in-Op.ensures c.requires.anew) h),
        (omega (arith, count, few.0), (omega (arith, count, few.1), refl)),
      ),
    )

pub look-shared_whole_as_front-applied : goal.look-shared_whole_as_front-applied
look-shared_whole_as_front-applied t c =
    let h = look_is c.in-Op.ensures c.requires.may in
    let few = may.op_few c.in-Op.p _ h.can in
    let count = step.count_forest c.in-Op.operands.now in
    omega (arith, count, few.1, c.pair.auto.words)

pub look-applied-requires : goal.look-applied-requires
look-applied-requires t c =
    let h = look_is c.in-Op.ensures c.requires.may in
    let fs = whole.finds_all_slots c.part-in-Op.ensures.slots c.part-in-Op.ensures.at c.if-pair.ensures.finds in
    may.op_fits c.in-Op.p _ (take (length c.in-Op.operands.now) c.pair.new.words) h.can fs.words

pub look-returns-then-pair-clause-looks : goal.look-returns-then-pair-clause-looks
look-returns-then-pair-clause-looks t c =
    let fs = whole.finds_all_slots c.part-in-Op.ensures.slots c.part-in-Op.ensures.at c.if-pair.ensures.finds in
    whole.looks_is c.in-Op.ensures (whole.looks_op fs (ap Some c.applied.ensures))

pub look-returns-else-pair-clause-looks : goal.look-returns-else-pair-clause-looks
look-returns-else-pair-clause-looks t c =
    let fs = whole.finds_all_slots c.part-in-Op.ensures.slots c.part-in-Op.ensures.at c.if-pair.ensures.finds in
    whole.looks_is c.in-Op.ensures (whole.looks_op fs refl)

-- ---- calls

pub look-values-requires-in-Call : goal.look-values-requires-in-Call
look-values-requires-in-Call t c =
    let count = forest_nodes c.in-Call.args.now in
    let h = look_is c.in-Call.ensures c.requires.may in (
      search rules,
      (
        look_all_at c.part-in-Call.ensures.slots c.part-in-Call.ensures.at c.part-in-Call.ensures.news (part.may_call h),
        (omega (arith, count, h.room), omega (arith, c.part-in-Call.ensures.slots)),
      ),
    )

pub look-ask-requires-clause-site : goal.look-ask-requires-clause-site
look-ask-requires-clause-site t c =
    let h = look_is c.in-Call.ensures c.requires.may in
    omega (arith, may.call_place _ _ _ h.can, c.values-in-Call.ensures.asks.long)

pub look-words-requires : goal.look-words-requires
look-words-requires t c =
    let count = forest_nodes c.in-Call.args.now in
    let h = look_is c.in-Call.ensures c.requires.may in
    omega (arith, count, h.room, c.values-in-Call.auto.env)

pub look-ask-requires-clause-few : goal.look-ask-requires-clause-few
look-ask-requires-clause-few t c =
    let h = look_is c.in-Call.ensures c.requires.may in
    let few = may.call_few _ _ _ h.can in
    omega (
      arith,
      few,
      step.count_forest c.in-Call.args.now,
      ap (λ (l : List Word). length l) c.words.ensures,
      step.part_few
          (length c.in-Call.args.now) (drop c.args.spot.slots c.values-in-Call.new.env),
    )

pub look-returned-requires-clause-within : goal.look-returned-requires-clause-within
look-returned-requires-clause-within t c =
    let h = look_is c.in-Call.ensures c.requires.may in
    omega (arith, may.call_place _ _ _ h.can, h.can.all_sites)

pub look-returned-requires-in-Call-clause-within : goal.look-returned-requires-in-Call-clause-within
look-returned-requires-in-Call-clause-within t c =
    let h = look_is c.in-Call.ensures c.requires.may in
    omega (arith, may.call_place _ _ _ h.can, h.can.all_sites)

pub look-returns-after-values-2-clause-looks : goal.look-returns-after-values-2-clause-looks
look-returns-after-values-2-clause-looks t c =
    let h = look_is c.in-Call.ensures c.requires.may in
    let back = whole.ready_cell c.returned-in-Call.result c.returned-in-Call.new.word c.ready-in-Call.result c.ready-in-Call.ensures ∙ c.returned-in-Call.ensures in
    whole.looks_is c.in-Call.ensures (elim c.if-values-2.branch [
      | look-then-values-2 w ↦ whole.looks_asked (take (length c.in-Call.args.now) (drop c.args.spot.slots c.values-in-Call.new.env)) h
          (whole.finds_all_slots c.part-in-Call.ensures.slots c.part-in-Call.ensures.at w.if-values-2.ensures.finds)
          (omega (arith, may.call_place _ _ _ h.can, c.values-in-Call.ensures.asks.long)) (ap Some w.words.ensures) (ap (λ (x : Wants). x.each.items) w.asks-is ∙ w.ask.ensures.each) back
      | look-else-values-2 w ↦ whole.looks_asks (ap (λ (x : Wants). x.each.items) w.asks-is)
          (whole.looks_unasked h (whole.finds_all_slots c.part-in-Call.ensures.slots c.part-in-Call.ensures.at w.if-values-2.ensures.finds) back)
    ])

pub look-returns-then-has_returned-clause-looks : goal.look-returns-then-has_returned-clause-looks
look-returns-then-has_returned-clause-looks t c =
    let h = look_is c.in-Call.ensures c.requires.may in
    let back = whole.ready_cell c.returned.result c.returned.new.word c.ready-then-has_returned.result c.ready-then-has_returned.ensures ∙ c.returned.ensures in
    whole.looks_is c.in-Call.ensures (whole.looks_returned h (c.has_returned.ensures c.if-has_returned.true) back)

-- ---- tail calls

pub look-values-requires-in-Loop : goal.look-values-requires-in-Loop
look-values-requires-in-Loop t c =
    let count = forest_nodes c.in-Loop.passed.now in
    let h = look_is c.in-Loop.ensures c.requires.may in (
      search rules,
      (
        look_all_at c.part-in-Loop.ensures.slots c.part-in-Loop.ensures.at c.part-in-Loop.ensures.news (part.may_loop (anew_is c.in-Loop.ensures c.requires.anew) h),
        (omega (arith, count, h.room), omega (arith, c.part-in-Loop.ensures.slots)),
      ),
    )

pub look-returns-in-Loop-clause-looks : goal.look-returns-in-Loop-clause-looks
look-returns-in-Loop-clause-looks t c =
    whole.looks_is c.in-Loop.ensures (whole.looks_loop (whole.finds_all_slots c.part-in-Loop.ensures.slots c.part-in-Loop.ensures.at c.values-in-Loop.ensures.finds))

-- ---- constants and slots

pub look-returns-in-Const-clause-looks : goal.look-returns-in-Const-clause-looks
look-returns-in-Const-clause-looks t c =
    whole.looks_is c.in-Const.ensures (whole.looks_const c.in-Const.number (whole.ready_cell c.put.result c.put.new.word c.ready.result c.ready.ensures ∙ c.put.ensures))

pub look-returns-in-Var-clause-looks : goal.look-returns-in-Var-clause-looks
look-returns-in-Var-clause-looks t c =
    let place = may.var_place c.in-Var.slot (may.can_is refl refl c.in-Var.ensures c.requires.may.can) in
    let read : c.index-env-slot.result ≡ _ = step.slot_is c.args.env.now c.args.spot.slots c.in-Var.slot _ place c.index-env-slot.is in
    whole.looks_is c.in-Var.ensures (whole.looks_var c.in-Var.slot (whole.ready_cell c.put-in-Var.result c.put-in-Var.new.word c.ready-in-Var.result c.ready-in-Var.ensures
    ∙ (c.put-in-Var.ensures ∙ (ap Some (sym c.index-env-slot.is ∙ read) ∙ ap word_of
    (sym (step.answer_var (back_at c.args.facts.now.stages.now) (take c.args.spot.slots c.args.env.now) c.in-Var.slot))))))

-- ---- operands

pub operand-returns-in-Const-clause-finds : goal.operand-returns-in-Const-clause-finds
operand-returns-in-Const-clause-finds t c = finds_is c.in-Const.ensures (whole.finds_const c.in-Const.number c.put.ensures)

pub operand-returns-in-Var-clause-finds : goal.operand-returns-in-Var-clause-finds
operand-returns-in-Var-clause-finds t c =
    let place = may.var_place c.in-Var.slot (may.can_is refl refl c.in-Var.ensures c.requires.can) in
    let read : c.index-env-slot.result ≡ _ = step.slot_is c.args.env.now c.args.spot.slots c.in-Var.slot _ place c.index-env-slot.is in
    finds_is c.in-Var.ensures (whole.finds_var c.in-Var.slot
    (c.put-in-Var.ensures ∙ (ap Some (sym c.index-env-slot.is ∙ read) ∙ ap word_of
    (sym (step.answer_var (back_at c.args.facts.now.stages.now) (take c.args.spot.slots c.args.env.now) c.in-Var.slot)))))

pub pair-operand-requires : goal.pair-operand-requires
pair-operand-requires t c =
    let e : c.args.ts.now ≡ c.only-item.result ∷ [] = one_item c.args.ts.now c.only-item.result c.in-len1.len_at_least c.in-len1.len_below c.only-item.is in
    let shape = ap shown_terms e in
    (search rules, part.may_first (look_all_is shape c.requires.may))

pub pair-returns-in-len1-clause-finds : goal.pair-returns-in-len1-clause-finds
pair-returns-in-len1-clause-finds t c =
    let e : c.args.ts.now ≡ c.only-item.result ∷ [] = one_item c.args.ts.now c.only-item.result c.in-len1.len_at_least c.in-len1.len_below c.only-item.is in
    let fo = c.operand.ensures.finds in
    finds_all_is (ap shown_terms e) (whole.finds_one fo
    (whole.answers_one (back_at c.args.facts.now.stages.now) (take c.args.spot.slots c.args.env.now) (shown_term c.only-item.result) c.operand.result c.operand.new.word fo.word
    ∙ (sym (whole.one_word c.args.words.now c.operand.result c.operand.new.word c.requires.room) ∙ ap
    (λ (x : List declared.Term). cond c.operand.result (Some (take (length x) (slice_set c.args.words.now 0 c.operand.new.word))) None) (sym e))))

pub pair-operand-first-requires : goal.pair-operand-first-requires
pair-operand-first-requires t c =
    let e : c.args.ts.now ≡ c.a-item.result ∷ c.b-item.result ∷ [] = two_items c.args.ts.now c.a-item.result c.b-item.result c.in-len2.len_at_least c.in-len2.len_below c.a-item.is c.b-item.is in
    let shape = ap shown_terms e in
    (search rules, part.may_first (look_all_is shape c.requires.may))

pub pair-operand-second-requires : goal.pair-operand-second-requires
pair-operand-second-requires t c =
    let e : c.args.ts.now ≡ c.a-item.result ∷ c.b-item.result ∷ [] = two_items c.args.ts.now c.a-item.result c.b-item.result c.in-len2.len_at_least c.in-len2.len_below c.a-item.is c.b-item.is in
    let shape = ap shown_terms e in
    let h = look_all_is shape c.requires.may in (
      search rules,
      look_at c.after.ensures.slots refl c.after.ensures.news
          (part.may_first (part.may_rest (omega (arith, c.operand-first.ensures.asks.long)) (omega (arith, c.operand-first.auto.env))
          (omega (arith, c.operand-first.auto.kept)) c.operand-first.ensures.kept h c.operand-first.ensures.finds (c.after.ensures.at ∙ part.after_first h))),
    )

pub pair-returns-then-first-clause-finds : goal.pair-returns-then-first-clause-finds
pair-returns-then-first-clause-finds t c =
    let B = back_at c.args.facts.now.stages.now in
    let E = take c.args.spot.slots c.args.env.now in
    let e : c.args.ts.now ≡ c.a-item.result ∷ c.b-item.result ∷ [] = two_items c.args.ts.now c.a-item.result c.b-item.result c.in-len2.len_at_least c.in-len2.len_below c.a-item.is c.b-item.is in
    let h = look_all_is (ap shown_terms e) c.requires.may in
    let fa = c.if-first.ensures.finds in
    let fb = whole.finds_slots c.after.ensures.slots refl c.operand-second.ensures.finds in
    let rest = whole.finds_one fb (whole.answers_one B (take c.args.spot.slots c.operand-first.new.env) (shown_term c.b-item.result) c.operand-second.result c.operand-second.new.word fb.word) in
    finds_all_is (ap shown_terms e) (whole.finds_more h fa c.operand-first.ensures.kept (c.after.ensures.at ∙ part.after_first h) rest
    (whole.answers_two B E (take c.args.spot.slots c.operand-first.new.env) (shown_term c.a-item.result) (shown_term c.b-item.result)
    c.operand-first.new.word c.operand-second.new.word c.operand-second.result c.args.words.now fa.word fb.word c.operand-first.ensures.kept c.requires.room
    ∙ ap (λ (x : List declared.Term). cond c.operand-second.result
    (Some (take (length x) (slice_set (slice_set c.args.words.now 0 c.operand-first.new.word) 1 c.operand-second.new.word))) None) (sym e)))

pub pair-returns-else-first-clause-finds : goal.pair-returns-else-first-clause-finds
pair-returns-else-first-clause-finds t c =
    let B = back_at c.args.facts.now.stages.now in
    let E = take c.args.spot.slots c.args.env.now in
    let e : c.args.ts.now ≡ c.a-item.result ∷ c.b-item.result ∷ [] = two_items c.args.ts.now c.a-item.result c.b-item.result c.in-len2.len_at_least c.in-len2.len_below c.a-item.is c.b-item.is in
    let h = look_all_is (ap shown_terms e) c.requires.may in
    let fa = c.if-first.ensures.finds in
    let fb = whole.finds_slots c.after.ensures.slots refl c.operand-second.ensures.finds in
    let rest = whole.finds_one fb (whole.answers_one B (take c.args.spot.slots c.operand-first.new.env) (shown_term c.b-item.result) c.operand-second.result c.operand-second.new.word fb.word) in
    finds_all_is (ap shown_terms e) (whole.finds_more h fa c.operand-first.ensures.kept (c.after.ensures.at ∙ part.after_first h) rest
    (step.answers_not B E (plain.Cons (shown_term c.b-item.result) plain.Nil) (shown_term c.a-item.result) fa.word
    ∙ ap (λ (x : Bool). cond x (Some (take (length c.args.ts.now) (slice_set (slice_set c.args.words.now 0 c.operand-first.new.word) 1 c.operand-second.new.word))) None) (sym c.if-first.false)))

-- ---- lists

pub values-returns-then-are_known-clause-kept : goal.values-returns-then-are_known-clause-kept
values-returns-then-are_known-clause-kept t c =
    step.take_fewer c.are_known.new.env c.args.env.now c.args.spot.slots c.args.to c.requires.after c.are_known.ensures.kept

pub values-look_at_all-requires : goal.values-look_at_all-requires
values-look_at_all-requires t c =
    let kept = step.take_fewer c.are_known.new.env c.args.env.now c.args.spot.slots c.args.to c.requires.after c.are_known.ensures.kept in
    (search rules, (part.may_still (omega (arith, c.are_known.auto.env)) kept c.requires.may, (omega (arith, c.requires.places, c.are_known.auto.env), c.requires.after)))

pub values-returns-clause-finds : goal.values-returns-clause-finds
values-returns-clause-finds t c =
    whole.finds_all_still (step.take_fewer c.are_known.new.env c.args.env.now c.args.spot.slots c.args.to c.requires.after c.are_known.ensures.kept) c.look_at_all.ensures.finds

pub values-returns-clause-kept : goal.values-returns-clause-kept
values-returns-clause-kept t c =
    c.look_at_all.ensures.kept ∙ step.take_fewer c.are_known.new.env c.args.env.now c.args.spot.slots c.args.to c.requires.after c.are_known.ensures.kept

pub values-returns-then-are_known-clause-asks : goal.values-returns-then-are_known-clause-asks
values-returns-then-are_known-clause-asks t c = asks_none c.args.asks.now

pub look_at_all-returns-in_default-clause-finds : goal.look_at_all-returns-in_default-clause-finds
look_at_all-returns-in_default-clause-finds t c =
    let e : c.args.ts.now ≡ [] = nil_from_length c.args.ts.now c.in_default.ensures.cases in
    finds_all_is (ap shown_terms e) (whole.finds_nil (ap (λ (x : List declared.Term). Some (take (length x) (drop c.args.to c.args.env.now))) (sym e)))

pub look_at_all-operand-found-requires : goal.look_at_all-operand-found-requires
look_at_all-operand-found-requires t c =
    let e : c.args.ts.now ≡ c.in-Some.first.now ∷ c.in-Some.rest.now = c.in-Some.ensures.cases.0 in
    let shape = ap shown_terms e in
    (search rules, part.may_first (look_all_is shape c.requires.may))

pub look_at_all-look_at_all-ready-requires : goal.look_at_all-look_at_all-ready-requires
look_at_all-look_at_all-ready-requires t c =
    let some = some_nodes (shown_term c.in-Some.first.now) in
    let e : c.args.ts.now ≡ c.in-Some.first.now ∷ c.in-Some.rest.now = c.in-Some.ensures.cases.0 in
    let shape = ap shown_terms e in
    let long = ap (λ (x : List declared.Term). length x) e in
    let h = look_all_is shape c.requires.may in (
      search rules,
      (
        look_all_at c.after.ensures.slots refl c.after.ensures.news
            (part.may_rest (omega (arith, c.operand-found.ensures.asks.long)) (omega (arith, c.operand-found.auto.env))
            (omega (arith, c.operand-found.auto.kept)) c.operand-found.ensures.kept h c.operand-found.ensures.finds (c.after.ensures.at ∙ part.after_first h)),
        (omega (arith, long, c.requires.places, c.operand-found.auto.env), omega (arith, c.requires.after, c.after.ensures.slots)),
      ),
    )

pub look_at_all-returns-then-found-clause-finds : goal.look_at_all-returns-then-found-clause-finds
look_at_all-returns-then-found-clause-finds t c =
    let B = back_at c.args.facts.now.stages.now in
    let E = take c.args.spot.slots c.args.env.now in
    let e : c.args.ts.now ≡ c.in-Some.first.now ∷ c.in-Some.rest.now = c.in-Some.ensures.cases.0 in
    let h = look_all_is (ap shown_terms e) c.requires.may in
    let ft = c.if-found.ensures.finds in
    let fs = whole.finds_all_slots c.after.ensures.slots refl c.look_at_all-ready.ensures.finds in
    let long = ap (λ (x : List declared.Term). length x) e in
    let rest = sym (step.answers_is B c.operand-found.ensures.kept refl) ∙ fs.words in
    let within : c.args.to < length c.look_at_all-ready.new.env = omega (arith, long, c.requires.places, c.operand-found.auto.env, c.look_at_all-ready.auto.env) in
    finds_all_is (ap shown_terms e) (whole.finds_more h ft c.operand-found.ensures.kept (c.after.ensures.at ∙ part.after_first h) fs
    (step.answers_more B E _ (shown_term c.in-Some.first.now) c.operand-found.new.word _ ft.word rest
    ∙ (step.words_more c.look_at_all-ready.new.env c.args.to (length c.in-Some.rest.now) c.operand-found.new.word c.look_at_all-ready.result within
    ∙ ap (λ n. cond c.look_at_all-ready.result (Some (take n (drop c.args.to (slice_set c.look_at_all-ready.new.env c.args.to c.operand-found.new.word)))) None) (sym long))))

pub look_at_all-returns-else-found-clause-finds : goal.look_at_all-returns-else-found-clause-finds
look_at_all-returns-else-found-clause-finds t c =
    let B = back_at c.args.facts.now.stages.now in
    let E = take c.args.spot.slots c.args.env.now in
    let e : c.args.ts.now ≡ c.in-Some.first.now ∷ c.in-Some.rest.now = c.in-Some.ensures.cases.0 in
    let h = look_all_is (ap shown_terms e) c.requires.may in
    let ft = c.if-found.ensures.finds in
    let fs = whole.finds_all_slots c.after.ensures.slots refl c.look_at_all-ready.ensures.finds in
    finds_all_is (ap shown_terms e) (whole.finds_more h ft c.operand-found.ensures.kept (c.after.ensures.at ∙ part.after_first h) fs (step.answers_not B E _ (shown_term c.in-Some.first.now) ft.word))

-- ---- the sites that are asked for

pub find-returns-then-is_skipped-clause-asks : goal.find-returns-then-is_skipped-clause-asks
find-returns-then-is_skipped-clause-asks t c = asks_none c.args.asks.now

pub find-returns-then-is_plain_at-clause-asks : goal.find-returns-then-is_plain_at-clause-asks
find-returns-then-is_plain_at-clause-asks t c = asks_none c.args.asks.now

pub find-returns-clause-asks : goal.find-returns-clause-asks
find-returns-clause-asks t c = c.look-found.ensures.asks

pub look-returns-then-bits-eq1-clause-asks : goal.look-returns-then-bits-eq1-clause-asks
look-returns-then-bits-eq1-clause-asks t c = asks_both c.operand.ensures.asks c.operand-then-bits-eq1.ensures.asks

pub look-returns-else-bits-eq1-clause-asks : goal.look-returns-else-bits-eq1-clause-asks
look-returns-else-bits-eq1-clause-asks t c = asks_both c.operand.ensures.asks c.operand-else-bits-eq1.ensures.asks

pub look-returns-else-operand-clause-asks : goal.look-returns-else-operand-clause-asks
look-returns-else-operand-clause-asks t c = c.operand.ensures.asks

pub look-returns-then-values-clause-asks : goal.look-returns-then-values-clause-asks
look-returns-then-values-clause-asks t c = asks_both c.values.ensures.asks c.operand-then-values.ensures.asks

pub look-returns-else-values-clause-asks : goal.look-returns-else-values-clause-asks
look-returns-else-values-clause-asks t c = c.values.ensures.asks

pub look-returns-then-pair-clause-asks : goal.look-returns-then-pair-clause-asks
look-returns-then-pair-clause-asks t c = c.pair.ensures.asks

pub look-returns-else-pair-clause-asks : goal.look-returns-else-pair-clause-asks
look-returns-else-pair-clause-asks t c = c.pair.ensures.asks

pub look-returns-then-has_returned-clause-asks : goal.look-returns-then-has_returned-clause-asks
look-returns-then-has_returned-clause-asks t c = asks_none c.args.asks.now

pub look-returns-after-values-2-clause-asks : goal.look-returns-after-values-2-clause-asks
look-returns-after-values-2-clause-asks t c =
    asks_both c.values-in-Call.ensures.asks (elim c.if-values-2.branch [
      | look-then-values-2 w ↦ subst (λ (x : Wants). Asks c.values-in-Call.new.asks x) (sym w.asks-is)
          (asks_one c.in-Call.k w.words.result.now w.ask.ensures.each w.ask.ensures.first w.ask.ensures.last)
      | look-else-values-2 w ↦ subst (λ (x : Wants). Asks c.values-in-Call.new.asks x) (sym w.asks-is) (asks_none c.values-in-Call.new.asks)
    ])

pub look-returns-in-Loop-clause-asks : goal.look-returns-in-Loop-clause-asks
look-returns-in-Loop-clause-asks t c = c.values-in-Loop.ensures.asks

pub look-returns-in-Const-clause-asks : goal.look-returns-in-Const-clause-asks
look-returns-in-Const-clause-asks t c = asks_none c.args.asks.now

pub look-returns-in-Var-clause-asks : goal.look-returns-in-Var-clause-asks
look-returns-in-Var-clause-asks t c = asks_none c.args.asks.now

pub operand-returns-in-Const-clause-asks : goal.operand-returns-in-Const-clause-asks
operand-returns-in-Const-clause-asks t c = asks_none c.args.asks.now

pub operand-returns-in-Var-clause-asks : goal.operand-returns-in-Var-clause-asks
operand-returns-in-Var-clause-asks t c = asks_none c.args.asks.now

pub pair-returns-in-len1-clause-asks : goal.pair-returns-in-len1-clause-asks
pair-returns-in-len1-clause-asks t c = c.operand.ensures.asks

pub pair-returns-then-first-clause-asks : goal.pair-returns-then-first-clause-asks
pair-returns-then-first-clause-asks t c = asks_both c.operand-first.ensures.asks c.operand-second.ensures.asks

pub pair-returns-else-first-clause-asks : goal.pair-returns-else-first-clause-asks
pair-returns-else-first-clause-asks t c = asks_both c.operand-first.ensures.asks c.operand-second.ensures.asks

pub look_at_all-returns-in_default-clause-asks : goal.look_at_all-returns-in_default-clause-asks
look_at_all-returns-in_default-clause-asks t c = asks_none c.args.asks.now

pub look_at_all-returns-then-found-clause-asks : goal.look_at_all-returns-then-found-clause-asks
look_at_all-returns-then-found-clause-asks t c = asks_both c.operand-found.ensures.asks c.look_at_all-ready.ensures.asks

pub look_at_all-returns-else-found-clause-asks : goal.look_at_all-returns-else-found-clause-asks
look_at_all-returns-else-found-clause-asks t c = asks_both c.operand-found.ensures.asks c.look_at_all-ready.ensures.asks
