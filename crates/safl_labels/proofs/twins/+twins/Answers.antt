use Rattle.safl_labels.proofs.Common.{AreAllLike, Likeness, Primitive, nodes, nodes_in, shown_if, shown_term, shown_terms, true≢false}
use Rattle.std.proofs.Common.{rules, ◌≡◌, ◌+◌, ◌*◌, ◌<◌, [], ◌∷◌, ◌++◌, Bool, true, false, take, length, refl, sym, ap, subst, ◌∙◌, arith}
use Rattle.std.proofs.lemmas.Option.{slice_get_read}
use Rattle.safl_calls.specs.Labels.{t_plain, t_nil, AllTwins}
use Rattle.safl_term.specs.Terms.{Op}
use Rattle.std.specs.Option.{IfSome}
use Rattle.safl_labels.specs.Likeness.{IsLike, is_word_of, least_of}
use Rattle.safl_labels.specs.Shown.{shown_labels}
use Rattle.safl_labels.proofs.Alike
use Rattle.safl_labels.proofs.Lists.{node_at, twins_at, all_more}
use Rattle.safl_labels.proofs.twins.+twins.Goals as goal
use Rattle.safl_labels.proofs.twins.+twins.Goals.{compare_all-then-is_apart, compare_all-else-is_apart}

pub compare-returns : goal.compare-returns
compare-returns t c =
    let L = shown_labels c.args.walk.now.labels.now in
    let ls = c.args.walk.now.slots.now in
    subst (IsLike L ls (shown_term c.args.t.now) (shown_term c.args.u.now)) (sym c.or_time.ensures)
    (Alike.plain_alike L ls _ _ c.in_ok-found.found c.are_plain.result c.are_plain.ensures.first c.are_plain.ensures.second c.in_ok-found.ensures)

pub compare_across-returns-then-are_plain-2-clause-first : goal.compare_across-returns-then-are_plain-2-clause-first
compare_across-returns-then-are_plain-2-clause-first t c =
    t_plain (c.are_plain.ensures.first c.if-are_plain.true) (c.are_plain.ensures.second c.if-are_plain.true)

pub compare_across-returns-then-are_plain-2-clause-second : goal.compare_across-returns-then-are_plain-2-clause-second
compare_across-returns-then-are_plain-2-clause-second t c =
    t_plain (c.are_plain-then-are_plain.ensures.first c.if-are_plain-2.true) (c.are_plain-then-are_plain.ensures.second c.if-are_plain-2.true)

pub compare_across-returns-clause-first : goal.compare_across-returns-clause-first
compare_across-returns-clause-first t c =
    let L = shown_labels c.args.walk.now.labels.now in
    let ls = c.args.walk.now.slots.now in
    subst (IsLike L ls (shown_term c.args.choice.first.now) (shown_term c.args.other.second.now)) (sym c.least.ensures)
    (Alike.least_left L ls _ _ c.in_ok-first.first c.in_ok-second.second c.in_ok-first.ensures)

pub compare_across-returns-clause-second : goal.compare_across-returns-clause-second
compare_across-returns-clause-second t c =
    let L = shown_labels c.args.walk.now.labels.now in
    let ls = c.args.walk.now.slots.now in
    subst (IsLike L ls (shown_term c.args.choice.second.now) (shown_term c.args.other.first.now)) (sym c.least.ensures)
    (Alike.least_right L ls _ _ c.in_ok-first.first c.in_ok-second.second c.in_ok-second.ensures)

pub compare_all-loop-i-init : goal.compare_all-loop-i-init
compare_all-loop-i-init t c = λ z.
    subst (AllTwins (shown_labels c.args.walk.now.labels.now) c.args.walk.now.slots.now _ _) (sym c.new-found.ensures.items) t_nil

pub compare_all-compare-requires : goal.compare_all-compare-requires
compare_all-compare-requires t c =
    let lt : c.loop-i.i < length c.args.us.now = omega (arith, c.loop-i-test.true, c.if-ts-us.false) in
    let x = slice_get_read c.args.ts.now (length c.args.ts.now) c.loop-i.i c.index-ts-i.result refl c.loop-i-test.true c.index-ts-i.is in
    let y = slice_get_read c.args.us.now (length c.args.us.now) c.loop-i.i c.index-us-i.result refl lt c.index-us-i.is in
    let h = node_at c.args.ts.now c.loop-i.i c.index-ts-i.result x in
    let k = node_at c.args.us.now c.loop-i.i c.index-us-i.result y in
    let smaller : 10 * (nodes (shown_term c.index-ts-i.result) + nodes (shown_term c.index-us-i.result)) + 8
    < 10 * (nodes_in (shown_terms c.args.ts.now) + nodes_in (shown_terms c.args.us.now)) + 9 = omega (arith, h, k) in
    search rules

pub compare_all-loop-i-preserved : goal.compare_all-loop-i-preserved
compare_all-loop-i-preserved t c = λ z.
    let L = shown_labels c.args.walk.now.labels.now in
    let ls = c.args.walk.now.slots.now in
    let lt : c.loop-i.i < length c.args.us.now = omega (arith, c.loop-i-test.true, c.if-ts-us.false) in
    let x = slice_get_read c.args.ts.now (length c.args.ts.now) c.loop-i.i c.index-ts-i.result refl c.loop-i-test.true c.index-ts-i.is in
    let y = slice_get_read c.args.us.now (length c.args.us.now) c.loop-i.i c.index-us-i.result refl lt c.index-us-i.is in
    let b = is_word_of c.in_ok-next.next in
    let now = c.in_ok-push.ensures.items ∙ ap (λ (v : Bool). c.loop-i.found.items ++ v ∷ []) c.is_word.ensures in
    elim c.if-is_apart.branch [
      | compare_all-then-is_apart w ↦ absurd (true≢false (sym w.if-is_apart.true ∙ (sym w.is_apart-is ∙ z)))
      | compare_all-else-is_apart w ↦
          subst (AllTwins L ls (shown_terms (take (c.loop-i.i + 1) c.args.ts.now)) (shown_terms (take (c.loop-i.i + 1) c.args.us.now))) (sym now)
          (all_more L ls c.args.ts.now c.args.us.now c.loop-i.found.items c.loop-i.i c.index-ts-i.result c.index-us-i.result b x y (c.loop-i.invariant w.if-is_apart.false)
          (twins_at L ls _ _ c.in_ok-next.next c.in_ok-next.ensures (sym w.is_apart-is_apart.ensures ∙ (sym w.is_apart-is ∙ z))))
    ]

pub compare_calls-returns-in-Some : goal.compare_calls-returns-in-Some
compare_calls-returns-in-Some t c =
    let L = shown_labels c.args.walk.now.labels.now in
    let ls = c.args.walk.now.slots.now in
    let e = Alike.call_by c.in-Call.ensures c.if-f-g.false c.if-k-l.false in
    let all = subst (λ o. IfSome o (λ found. AreAllLike c.args.walk.now (shown_terms c.args.ts.now) (shown_terms c.in-Call.us.now) found.items)) c.in-Some.is c.in_ok-found.ensures in
    Alike.ok_then c.pass.result (λ m h. Alike.calls_by L ls c.args.f c.args.k _ _ _ _ _ m e all c.deref.ensures.value h) c.pass.ensures

pub compare_choices-returns-in-SameWord : goal.compare_choices-returns-in-SameWord
compare_choices-returns-in-SameWord t c =
    let L = shown_labels c.args.walk.now.labels.now in
    let ls = c.args.walk.now.slots.now in
    let k = subst (IsLike L ls (shown_term c.args.choice.condition.now) (shown_term c.args.other.condition.now)) c.in-SameWord.is c.in_ok-condition.ensures in
    subst (IsLike L ls (shown_if c.args.choice) (shown_if c.args.other)) (sym c.least-same.ensures)
    (Alike.ifs_alike L ls _ _ _ _ _ _ c.in_ok-first.first c.in_ok-second.second k c.in_ok-first.ensures c.in_ok-second.ensures)

pub compare_choices-returns-after-walk : goal.compare_choices-returns-after-walk
compare_choices-returns-after-walk t c =
    let L = shown_labels c.args.walk.now.labels.now in
    let ls = c.args.walk.now.slots.now in
    let k = subst (IsLike L ls (shown_term c.args.choice.condition.now) (shown_term c.args.other.condition.now)) c.in-SameTime.is c.in_ok-condition.ensures in
    let across = c.in_ok-across-in-SameTime in
    let least = c.least.ensures ∙ ap (λ (m : Likeness). least_of m across.across) c.least-same.ensures in
    subst (IsLike L ls (shown_if c.args.choice) (shown_if c.args.other)) (sym least)
    (Alike.choices_alike L ls _ _ _ _ _ _ c.in_ok-first.first c.in_ok-second.second across.across k
    c.in_ok-first.ensures c.in_ok-second.ensures across.ensures.first across.ensures.second)

pub compare_left-returns : goal.compare_left-returns
compare_left-returns t c =
    let L = shown_labels c.args.walk.now.labels.now in
    let ls = c.args.walk.now.slots.now in
    subst (IsLike L ls (shown_if c.args.choice) (shown_term c.args.u.now)) (sym c.least.ensures)
    (Alike.left_alike L ls _ _ _ _ c.in_ok-first.first c.in_ok-second.second (c.is_plain.ensures c.if-not-is_plain.false) c.in_ok-first.ensures c.in_ok-second.ensures)

pub compare_right-returns : goal.compare_right-returns
compare_right-returns t c =
    let L = shown_labels c.args.walk.now.labels.now in
    let ls = c.args.walk.now.slots.now in
    subst (IsLike L ls (shown_term c.args.t.now) (shown_if c.args.choice)) (sym c.least.ensures)
    (Alike.right_alike L ls _ _ _ _ c.in_ok-first.first c.in_ok-second.second (c.is_plain.ensures c.if-not-is_plain.false) c.in_ok-first.ensures c.in_ok-second.ensures)

pub compare_lets-returns : goal.compare_lets-returns
compare_lets-returns t c =
    let L = shown_labels c.args.walk.now.labels.now in
    let ls = c.args.walk.now.slots.now in
    let all = subst (λ o. IfSome o (λ found. AreAllLike c.args.walk.now (shown_terms c.args.ts.now) (shown_terms c.in-Let.us.now) found.items)) c.in-Some.is c.in_ok-bound.ensures in
    let slots : c.deref-2.result.now ≡ ls ++ c.in-Some.bound.items = c.deref-2.ensures.value
    ∙ (c.in_ok-extend_from_slice.ensures.items
    ∙ (ap (λ l. l ++ c.deref.result.now) (c.in_ok-slots.ensures.items_if_clones_equal (λ x y h. h)) ∙ ap (λ l. ls ++ l) c.deref.ensures.value)) in
    Alike.ok_then c.compare.result (λ m h. Alike.lets_by L ls _ _ _ _ _ _ _ m c.in-Let.ensures all slots h) c.compare.ensures

pub compare_loops-returns-in-Some : goal.compare_loops-returns-in-Some
compare_loops-returns-in-Some t c =
    let L = shown_labels c.args.walk.now.labels.now in
    let ls = c.args.walk.now.slots.now in
    let e = Alike.loop_by c.in-Loop.ensures c.if-h-g.false in
    let all = subst (λ o. IfSome o (λ found. AreAllLike c.args.walk.now (shown_terms c.args.ts.now) (shown_terms c.in-Loop.us.now) found.items)) c.in-Some.is c.in_ok-found.ensures in
    Alike.ok_then c.pass.result (λ m h. Alike.loops_by L ls c.args.h _ _ _ _ _ m e all c.deref.ensures.value h) c.pass.ensures

pub compare_parts-returns-in-Some : goal.compare_parts-returns-in-Some
compare_parts-returns-in-Some t c =
    let L = shown_labels c.args.walk.now.labels.now in
    let ls = c.args.walk.now.slots.now in
    let same = c.are_same.ensures c.if-not-are_same.false in
    let e = c.in-Op.ensures ∙ ap (λ (p : Primitive). Op p (shown_terms c.in-Op.us.now)) (sym same) in
    let all = subst (λ o. IfSome o (λ found. AreAllLike c.args.walk.now (shown_terms c.args.ts.now) (shown_terms c.in-Op.us.now) found.items)) c.in-Some.is c.in_ok-found.ensures in
    Alike.ops_by L ls c.args.o _ _ _ _ _ _ c.word_if.result e all c.deref.ensures.value c.are_public.ensures c.word_if.ensures

pub compare_shapes-returns-in-Const : goal.compare_shapes-returns-in-Const
compare_shapes-returns-in-Const t c = rw c.in-Const.ensures (c.compare_word.ensures _ _)

pub compare_shapes-returns-in-Var : goal.compare_shapes-returns-in-Var
compare_shapes-returns-in-Var t c = rw c.in-Var.ensures (c.compare_slot.ensures _)

pub compare_shapes-returns-in-Op : goal.compare_shapes-returns-in-Op
compare_shapes-returns-in-Op t c = rw c.in-Op.ensures c.compare_parts.ensures

pub compare_shapes-returns-in-Let : goal.compare_shapes-returns-in-Let
compare_shapes-returns-in-Let t c = rw c.in-Let.ensures c.compare_lets.ensures

pub compare_shapes-returns-in-Call : goal.compare_shapes-returns-in-Call
compare_shapes-returns-in-Call t c = rw c.in-Call.ensures c.compare_calls.ensures

pub compare_shapes-returns-in-Loop : goal.compare_shapes-returns-in-Loop
compare_shapes-returns-in-Loop t c = rw c.in-Loop.ensures c.compare_loops.ensures
