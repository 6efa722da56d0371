use Rattle.safl_evaluate.proofs.Common.{back_at, nil_from_length, shown_term, shown_terms, some_nodes}
use Rattle.std.proofs.Common.{rules, ◌≡◌, ◌<◌, List, length, take, drop, ◌∷◌, [], slice_set, refl, sym, ap, ◌∙◌, arith}
use Rattle.safl_term.specs.declared.term.Term as declared
use Rattle.safl_evaluate.proofs.AnswersByParts as step
use Rattle.safl_evaluate.proofs.AnswersByParts.{forest_nodes, one_item, two_items}
use Rattle.safl_evaluate.proofs.PlainByParts as part
use Rattle.safl_evaluate.proofs.PlainByParts.{compute_is, compute_all_is, comes_is, come_is, come_with}
use Rattle.safl_evaluate.proofs.RunsByParts as may
use Rattle.safl_evaluate.proofs.compute.+compute.Goals as goal

-- ---- conditions

pub compute-operand-requires : goal.compute-operand-requires
compute-operand-requires t c =
    (search rules, part.compute_condition (compute_is c.in-If.ensures c.requires))

pub compute-operand-requires-then-bits-eq1 : goal.compute-operand-requires-then-bits-eq1
compute-operand-requires-then-bits-eq1 t c =
    (search rules, part.compute_then (omega (arith, c.operand.auto.env)) c.operand.ensures.kept (compute_is c.in-If.ensures c.requires))

pub compute-operand-requires-else-bits-eq1 : goal.compute-operand-requires-else-bits-eq1
compute-operand-requires-else-bits-eq1 t c =
    (search rules, part.compute_else (omega (arith, c.operand.auto.env)) c.operand.ensures.kept (compute_is c.in-If.ensures c.requires))

pub compute-returns-then-bits-eq1-clause-word : goal.compute-returns-then-bits-eq1-clause-word
compute-returns-then-bits-eq1-clause-word t c =
    comes_is refl c.in-If.ensures (part.comes_then c.operand.ensures.word (sym c.bits.ensures.value ∙ c.if-bits-eq1.true)
    (comes_is (sym c.operand.ensures.kept) refl c.operand-then-bits-eq1.ensures.word))

pub compute-returns-else-bits-eq1-clause-word : goal.compute-returns-else-bits-eq1-clause-word
compute-returns-else-bits-eq1-clause-word t c =
    comes_is refl c.in-If.ensures (part.comes_else c.operand.ensures.word (λ q. c.if-bits-eq1.false (c.bits.ensures.value ∙ q))
    (comes_is (sym c.operand.ensures.kept) refl c.operand-else-bits-eq1.ensures.word))

-- ---- bindings

pub compute-values-requires : goal.compute-values-requires
compute-values-requires t c =
    let h = compute_is c.in-Let.ensures c.requires in
    (search rules, (part.compute_bound h, (omega (arith, forest_nodes c.in-Let.bound.now, h.room), omega arith)))

pub compute-operand-requires-in-Let : goal.compute-operand-requires-in-Let
compute-operand-requires-in-Let t c =
    let h = compute_is c.in-Let.ensures c.requires in
    let slots = step.slots_and c.values.new.env (take c.args.slots c.args.env.now) c.args.slots (length c.in-Let.bound.now) c.values.ensures.kept in (
      search rules,
      part.compute_body (omega (arith, c.values.auto.env)) (take (length c.in-Let.bound.now)
          (drop c.args.slots c.values.new.env)) h c.values.ensures.words
          slots (omega (arith, forest_nodes c.in-Let.bound.now, h.room)),
    )

pub compute-returns-in-Let-clause-word : goal.compute-returns-in-Let-clause-word
compute-returns-in-Let-clause-word t c =
    let slots = step.slots_and c.values.new.env (take c.args.slots c.args.env.now) c.args.slots (length c.in-Let.bound.now) c.values.ensures.kept in
    comes_is refl c.in-Let.ensures (part.comes_let c.values.ensures.words (comes_is (sym slots) refl c.operand-in-Let.ensures.word))

pub compute-returns-in-Let-clause-kept : goal.compute-returns-in-Let-clause-kept
compute-returns-in-Let-clause-kept t c =
    step.slots_kept c.operand-in-Let.new.env c.values.new.env c.args.slots (length c.in-Let.bound.now) c.operand-in-Let.ensures.kept
    ∙ c.values.ensures.kept

-- ---- operators

pub compute-pair-requires : goal.compute-pair-requires
compute-pair-requires t c =
    let h = compute_is c.in-Op.ensures c.requires in
    let few = may.op_few c.in-Op.p _ h.can in
    let count = step.count_forest c.in-Op.operands.now in
    (search rules, (part.compute_op h, (omega (arith, count, few.0), (omega (arith, count, few.1), refl))))

pub compute-shared_whole_as_front-applied : goal.compute-shared_whole_as_front-applied
compute-shared_whole_as_front-applied t c =
    let h = compute_is c.in-Op.ensures c.requires in
    let few = may.op_few c.in-Op.p _ h.can in
    let count = step.count_forest c.in-Op.operands.now in
    omega (arith, count, few.1, c.pair.auto.words)

pub compute-applied-requires : goal.compute-applied-requires
compute-applied-requires t c =
    let h = compute_is c.in-Op.ensures c.requires in
    may.op_fits c.in-Op.p _ (take (length c.in-Op.operands.now) c.pair.new.words) h.can (c.pair.ensures.words.words (back_at h.stages))

pub compute-returns-in-Op-clause-word : goal.compute-returns-in-Op-clause-word
compute-returns-in-Op-clause-word t c =
    comes_is refl c.in-Op.ensures (part.comes_op c.pair.ensures.words c.applied.ensures)

-- ---- constants and slots

pub compute-returns-in-Const-clause-word : goal.compute-returns-in-Const-clause-word
compute-returns-in-Const-clause-word t c = comes_is refl c.in-Const.ensures (part.comes_const c.in-Const.number)

pub compute-returns-in-Var-clause-word : goal.compute-returns-in-Var-clause-word
compute-returns-in-Var-clause-word t c =
    let place = may.var_place c.in-Var.slot (may.can_is refl refl c.in-Var.ensures c.requires.can) in
    comes_is refl c.in-Var.ensures (part.comes_var c.in-Var.slot
    (step.slot_is c.args.env.now c.args.slots c.in-Var.slot _ place c.index-env-slot.is))

pub operand-returns-in-Const-clause-word : goal.operand-returns-in-Const-clause-word
operand-returns-in-Const-clause-word t c = comes_is refl c.in-Const.ensures (part.comes_const c.in-Const.number)

pub operand-returns-in-Var-clause-word : goal.operand-returns-in-Var-clause-word
operand-returns-in-Var-clause-word t c =
    let place = may.var_place c.in-Var.slot (may.can_is refl refl c.in-Var.ensures c.requires.can) in
    comes_is refl c.in-Var.ensures (part.comes_var c.in-Var.slot
    (step.slot_is c.args.env.now c.args.slots c.in-Var.slot _ place c.index-env-slot.is))

-- ---- one operand and two

pub pair-operand-requires : goal.pair-operand-requires
pair-operand-requires t c =
    let e : c.args.ts.now ≡ c.only-item.result ∷ [] = one_item c.args.ts.now c.only-item.result c.in-len1.len_at_least c.in-len1.len_below c.only-item.is in
    let shape = ap shown_terms e in
    (search rules, part.compute_first (compute_all_is shape c.requires.can))

pub pair-returns-in-len1-clause-words : goal.pair-returns-in-len1-clause-words
pair-returns-in-len1-clause-words t c =
    let e : c.args.ts.now ≡ c.only-item.result ∷ [] = one_item c.args.ts.now c.only-item.result c.in-len1.len_at_least c.in-len1.len_below c.only-item.is in
    come_is refl (ap shown_terms e) (come_with (sym (part.one_word c.args.words.now c.operand.new.word c.requires.room)
    ∙ ap (λ (x : List declared.Term). take (length x) (slice_set c.args.words.now 0 c.operand.new.word)) (sym e))
    (part.come_more c.operand.ensures.word part.come_nil))

pub pair-operand-requires-in-len2 : goal.pair-operand-requires-in-len2
pair-operand-requires-in-len2 t c =
    let e : c.args.ts.now ≡ c.a-item.result ∷ c.b-item.result ∷ [] = two_items c.args.ts.now c.a-item.result c.b-item.result c.in-len2.len_at_least
    c.in-len2.len_below c.a-item.is c.b-item.is in
    let shape = ap shown_terms e in
    (search rules, part.compute_first (compute_all_is shape c.requires.can))

pub pair-operand-requires-in-len2-2 : goal.pair-operand-requires-in-len2-2
pair-operand-requires-in-len2-2 t c =
    let e : c.args.ts.now ≡ c.a-item.result ∷ c.b-item.result ∷ [] = two_items c.args.ts.now c.a-item.result c.b-item.result c.in-len2.len_at_least
    c.in-len2.len_below c.a-item.is c.b-item.is in
    let shape = ap shown_terms e in (
      search rules,
      part.compute_first (part.compute_rest (omega (arith, c.operand-in-len2.auto.env)) c.operand-in-len2.ensures.kept
          (compute_all_is shape c.requires.can)),
    )

pub pair-returns-in-len2-clause-words : goal.pair-returns-in-len2-clause-words
pair-returns-in-len2-clause-words t c =
    let e : c.args.ts.now ≡ c.a-item.result ∷ c.b-item.result ∷ [] = two_items c.args.ts.now c.a-item.result c.b-item.result c.in-len2.len_at_least
    c.in-len2.len_below c.a-item.is c.b-item.is in
    come_is refl (ap shown_terms e) (come_with (sym (part.two_words c.args.words.now c.operand-in-len2.new.word c.operand-in-len2-2.new.word c.requires.room)
    ∙ ap (λ (x : List declared.Term). take (length x) (slice_set (slice_set c.args.words.now 0 c.operand-in-len2.new.word) 1 c.operand-in-len2-2.new.word))
    (sym e))
    (part.come_more c.operand-in-len2.ensures.word (come_is (sym c.operand-in-len2.ensures.kept) refl
    (part.come_more c.operand-in-len2-2.ensures.word part.come_nil))))

-- ---- lists

pub values-operand-requires : goal.values-operand-requires
values-operand-requires t c =
    let e : c.args.ts.now ≡ c.in-Some.first.now ∷ c.in-Some.rest.now = c.in-Some.ensures.cases.0 in
    let shape = ap shown_terms e in
    (search rules, part.compute_first (compute_all_is shape c.requires.can))

pub values-values-requires : goal.values-values-requires
values-values-requires t c =
    let some = some_nodes (shown_term c.in-Some.first.now) in
    let e : c.args.ts.now ≡ c.in-Some.first.now ∷ c.in-Some.rest.now = c.in-Some.ensures.cases.0 in
    let shape = ap shown_terms e in
    let long = ap (λ (x : List declared.Term). length x) e in (
      search rules,
      (
        part.compute_rest (omega (arith, c.operand.auto.env)) c.operand.ensures.kept (compute_all_is shape c.requires.can),
        (omega (arith, long, c.requires.places, c.operand.auto.env), omega (arith, c.requires.after)),
      ),
    )

pub values-returns-clause-words : goal.values-returns-clause-words
values-returns-clause-words t c =
    let e : c.args.ts.now ≡ c.in-Some.first.now ∷ c.in-Some.rest.now = c.in-Some.ensures.cases.0 in
    let long = ap (λ (x : List declared.Term). length x) e in
    let within : c.args.to < length c.values.new.env = omega (arith, long, c.requires.places, c.operand.auto.env, c.values.auto.env) in
    come_is refl (ap shown_terms e) (come_with (part.words_more c.values.new.env c.args.to (length c.in-Some.rest.now) c.operand.new.word within
    ∙ ap (λ n. take n (drop c.args.to (slice_set c.values.new.env c.args.to c.operand.new.word))) (sym long))
    (part.come_more c.operand.ensures.word (come_is (sym c.operand.ensures.kept) refl c.values.ensures.words)))

pub values-returns-in_default-clause-words : goal.values-returns-in_default-clause-words
values-returns-in_default-clause-words t c =
    let e : c.args.ts.now ≡ [] = nil_from_length c.args.ts.now c.in_default.ensures.cases in
    come_is refl (ap shown_terms e) (come_with (ap (λ (x : List declared.Term). take (length x) (drop c.args.to c.args.env.now)) (sym e)) part.come_nil)
