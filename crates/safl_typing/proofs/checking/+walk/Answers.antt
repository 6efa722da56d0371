use Rattle.safl_typing.proofs.Common.{AllByRecursion, AreMarked, BoundMarked, Fault, HasSlots, IsMarked, result_width, shown_bindings}
use Rattle.safl_typing.proofs.Common.{shown_expression, shown_expressions, shown_scope, shown_term, shown_terms, slots, widths_of}
use Rattle.std.proofs.Common.{rules, ◌≡◌, ℕ, ◌+◌, ◌*◌, ◌<◌, ◌^◌, ◌++◌, List, ◌∷◌, length, Bool, false, Option, refl, sym, ap, subst, ◌∙◌, arith}
use Rattle.std.specs.Prelude.{Result, Err, Ok, Some, None, map, ◌&&◌, ◌==◌}
use Rattle.std.proofs.lemmas.Result.{err_from_is_err_and, IfOk-weaker}
use Rattle.safl_typing.proofs.LetSlots.{body_sees}
use Rattle.safl_word.specs.declared.fault.Rule.TheVariants as faults
use Rattle.safl_typing.specs.declared.heads.Slot as code_slot
use Rattle.safl_typing.specs.declared.typed.Wanted.TheVariants as wants
use Rattle.safl_typing.specs.Rewriting.{Expression, Expressions, count, nodes, nodes_in, nodes_bound}
use Rattle.safl_typing.specs.Heads.{Slot, is_site, sites, sites_in, sites_bound}
use Rattle.safl_typing.specs.Ranges.{WideSlots, IsInRange}
use Rattle.safl_typing.specs.Walk.{fault_with, unless, needs, Typed, TypedAll, TypedAlike, Wanted, is_any, is_known, resized, exactly, check, check_all, check_alike, check_shift}
use Rattle.safl_typing.specs.PlainHeads.{shown_slots, shown_head, shown_callee, IsOneOf, known}
use Rattle.safl_typing.specs.PlainNames.{twice_at}
use Rattle.safl_typing.specs.PlainTyped.{shown_wanted, shown_typed, shown_all_typed, shown_alike, shown_shape, HasWidthOfWord, HasWideWanted}
use Rattle.safl_typing.specs.PlainTyped.{Says, SaysAll, SaysAlike, RefusesFault}
use Rattle.safl_typing.specs.MayWalk.{MayWalk, MayCheck, MayCheckAll, MayBind}
use Rattle.safl_typing.specs.Checking.{MayCheckIn}
use Rattle.safl_typing.proofs.SlotsBelowLets.{fails, goes}
use Rattle.safl_typing.proofs.WalkByForms as walk
use Rattle.safl_typing.proofs.FunctionsByName.{got}
use Rattle.safl_typing.proofs.MarksOfParts as marks
use Rattle.safl_typing.proofs.checking.+walk.Goals as goal

pub check_all-check_expression-requires : goal.check_all-check_expression-requires
check_all-check_expression-requires t c =
    let smaller = walk.less_first _ _ _ c.in-Some.ensures.cases.0 in
    let ok = walk.first_of _ _ _ _ _ _ _ c.in-Some.ensures.cases.0 c.requires.able in
    let both : AllByRecursion HasWideWanted (c.in-Some-split_first.own.now ∷ c.in-Some-split_first.others.now) = subst (AllByRecursion HasWideWanted) c.in-Some-split_first.ensures.cases.0
    c.requires.wanted in
    let wide : HasWideWanted c.in-Some-split_first.own.now = both.0 in
    let marked = marks.first_marked _ _ _ _ c.in-Some.ensures.cases.0 c.requires.marked in
    search rules

pub check_all-check_all-requires : goal.check_all-check_all-requires
check_all-check_all-requires t c =
    let smaller = walk.less_rest _ _ _ c.in-Some.ensures.cases.0 in
    let ok = walk.rest_of _ _ _ _ _ _ _ _ c.in-Some.ensures.cases.0 (c.add_sites-next.ensures _ (marks.first_marked _ _ _ _ c.in-Some.ensures.cases.0 c.requires.marked)) c.requires.able in
    let both : AllByRecursion HasWideWanted (c.in-Some-split_first.own.now ∷ c.in-Some-split_first.others.now) = subst (AllByRecursion HasWideWanted) c.in-Some-split_first.ensures.cases.0
    c.requires.wanted in
    let wide : AllByRecursion HasWideWanted c.in-Some-split_first.others.now = both.1 in
    let marked = marks.rest_marked _ _ _ _ c.in-Some.ensures.cases.0 c.requires.marked in
    search rules

pub check_all-returns-in_default-clause-says : goal.check_all-returns-in_default-clause-says
check_all-returns-in_default-clause-says t c = walk.none_is _ _ _ _ _ c.in_default.ensures.cases ∙ walk.ok_all _ _ (sym c.none_typed.ensures.none)

pub check_all-returns-in_default-split_first-clause-says : goal.check_all-returns-in_default-split_first-clause-says
check_all-returns-in_default-split_first-clause-says t c = walk.all_none _ _ _ _ _ c.in_default-split_first.ensures.cases ∙ walk.ok_all _ _ (sym c.none_typed-in_default-split_first.ensures.none)

pub check_all-returns-in_err-typed-clause-says : goal.check_all-returns-in_err-typed-clause-says
check_all-returns-in_err-typed-clause-says t c =
    let p = err_from_is_err_and c.from_residual.result c.from_residual.ensures.1 in
    rw (p.1, p.2) (fails c.in_err-typed.field-0.0 _ _ _ (walk.all_is _ _ _ _ _ _ _ _ _ _ c.in-Some-split_first.ensures.cases.0 c.in-Some.ensures.cases.0 (walk.next_of _ _ _ _ _ _ _ _
    c.in-Some.ensures.cases.0 (c.add_sites-next.ensures _ (marks.first_marked _ _ _ _ c.in-Some.ensures.cases.0 c.requires.marked)) c.requires.able)) c.in_err-typed.ensures.says)

pub check_all-returns-in_err-following-clause-says : goal.check_all-returns-in_err-following-clause-says
check_all-returns-in_err-following-clause-says t c =
    let p = err_from_is_err_and c.from_residual-in_err-following.result c.from_residual-in_err-following.ensures.1 in
    rw (p.1, p.2) (fails c.in_err-following.field-0.0 _ _ _ (goes _ _ _ (shown_typed c.in_ok-typed.typed) (walk.all_is _ _ _ _ _ _ _ _ _ _ c.in-Some-split_first.ensures.cases.0
    c.in-Some.ensures.cases.0 (walk.next_of _ _ _ _ _ _ _ _ c.in-Some.ensures.cases.0 (c.add_sites-next.ensures _ (marks.first_marked _ _ _ _ c.in-Some.ensures.cases.0 c.requires.marked))
    c.requires.able)) c.in_ok-typed.ensures.says) c.in_err-following.ensures.says)

pub check_all-returns-clause-says : goal.check_all-returns-clause-says
check_all-returns-clause-says t c =
    subst (λ (z : Result TypedAll Fault). SaysAll c.put_first.result z) (sym (goes _ _ _ (shown_all_typed c.in_ok-following.following) (goes _ _ _ (shown_typed c.in_ok-typed.typed)
    (walk.all_is _ _ _ _ _ _ _ _ _ _ c.in-Some-split_first.ensures.cases.0 c.in-Some.ensures.cases.0 (walk.next_of _ _ _ _ _ _ _ _ c.in-Some.ensures.cases.0 (c.add_sites-next.ensures _
    (marks.first_marked _ _ _ _ c.in-Some.ensures.cases.0 c.requires.marked)) c.requires.able)) c.in_ok-typed.ensures.says) c.in_ok-following.ensures.says)) c.put_first.ensures.says

pub check_shift-check_expression-requires : goal.check_shift-check_expression-requires
check_shift-check_expression-requires t c =
    let smaller = walk.less_first _ _ _ c.in-Some.ensures.cases.0 in
    let ok = walk.first_of _ _ _ _ _ _ _ c.in-Some.ensures.cases.0 c.requires.able in
    let marked = marks.first_marked _ _ _ _ c.in-Some.ensures.cases.0 c.requires.marked in
    search rules

pub check_shift-check_all-requires : goal.check_shift-check_all-requires
check_shift-check_all-requires t c =
    let smaller = walk.less_rest c.args.operands.now c.in-Some.first.now c.in-Some.rest.now c.in-Some.ensures.cases.0 in
    let ok : MayCheckAll c.args.context.now.heads.now c.args.context.now.unit (shown_scope c.args.scope.now) c.add_sites-next.result (shown_expressions c.in-Some.rest.now) = walk.rest_of
    c.args.context.now.heads.now c.args.context.now.unit (shown_scope c.args.scope.now) c.args.first_site c.args.operands.now c.in-Some.first.now c.in-Some.rest.now c.add_sites-next.result
    c.in-Some.ensures.cases.0 (c.add_sites-next.ensures _ (marks.first_marked (known c.args.context.now.heads.now c.args.context.now.unit) c.args.operands.now c.in-Some.first.now
    c.in-Some.rest.now c.in-Some.ensures.cases.0 c.requires.marked)) c.requires.able in
    let wide : HasWidthOfWord c.in_ok-operand.operand.width = walk.found_wide c.args.context.now.heads.now c.args.context.now.unit (shown_scope c.args.scope.now) false c.args.first_site wants.Any
    (shown_expression c.in-Some.first.now) (shown_typed c.in_ok-operand.operand) (walk.first_of c.args.context.now.heads.now c.args.context.now.unit (shown_scope c.args.scope.now)
    c.args.first_site c.args.operands.now c.in-Some.first.now c.in-Some.rest.now c.in-Some.ensures.cases.0 c.requires.able) tt c.in_ok-operand.ensures.says in
    let marked = marks.rest_marked (known c.args.context.now.heads.now c.args.context.now.unit) c.args.operands.now c.in-Some.first.now c.in-Some.rest.now c.in-Some.ensures.cases.0
    c.requires.marked in
    let each : AllByRecursion HasWideWanted c.deref.result.now = walk.operands_wide (Some c.in_ok-operand.operand.width) (shown_expressions c.in-Some.rest.now) c.deref.result.now
    (λ w e. subst HasWidthOfWord (walk.same_some _ _ e) wide) (ap (map shown_wanted) c.deref.ensures.value ∙ c.in_ok-amounts.ensures _ (marks.rest_marked (known c.args.context.now.heads.now
    c.args.context.now.unit) c.args.operands.now c.in-Some.first.now c.in-Some.rest.now c.in-Some.ensures.cases.0 c.requires.marked)) in
    search rules

pub check_shift-returns-in_default-clause-says : goal.check_shift-returns-in_default-clause-says
check_shift-returns-in_default-clause-says t c =
    subst (λ (z : Expressions). SaysAlike (Err c.refused.result) (check_shift (known c.args.context.now.heads.now c.args.context.now.unit) (shown_scope c.args.scope.now) c.args.first_site
    c.args.place z)) (sym (walk.no_list _ c.in_default.ensures.cases)) (walk.refused_is _ _ _ c.refused.ensures refl)

pub check_shift-returns-in_err-operand-clause-says : goal.check_shift-returns-in_err-operand-clause-says
check_shift-returns-in_err-operand-clause-says t c =
    let p = err_from_is_err_and c.from_residual.result c.from_residual.ensures.1 in
    rw (p.1, p.2) (fails c.in_err-operand.field-0.0 _ _ _ (walk.shift_is _ _ _ _ _ _ _ _ c.in-Some.ensures.cases.0 (walk.next_of _ _ _ _ _ _ _ _ c.in-Some.ensures.cases.0
    (c.add_sites-next.ensures _ (marks.first_marked _ _ _ _ c.in-Some.ensures.cases.0 c.requires.marked)) c.requires.able)) c.in_err-operand.ensures.says)

pub check_shift-returns-in_err-others-clause-says : goal.check_shift-returns-in_err-others-clause-says
check_shift-returns-in_err-others-clause-says t c =
    let p = err_from_is_err_and c.from_residual-in_err-others.result c.from_residual-in_err-others.ensures.1 in
    rw (p.1, p.2) (fails c.in_err-others.field-0.0 _ _ _ (walk.shift_goes _ _ _ _ _ _ _ _ _ _ c.in-Some.ensures.cases.0 (walk.next_of _ _ _ _ _ _ _ _ c.in-Some.ensures.cases.0
    (c.add_sites-next.ensures _ (marks.first_marked _ _ _ _ c.in-Some.ensures.cases.0 c.requires.marked)) c.requires.able) c.in_ok-operand.ensures.says
    (ap (map shown_wanted) c.deref.ensures.value ∙ c.in_ok-amounts.ensures _ (marks.rest_marked _ _ _ _ c.in-Some.ensures.cases.0 c.requires.marked))) c.in_err-others.ensures.says)

pub check_shift-returns-clause-says : goal.check_shift-returns-clause-says
check_shift-returns-clause-says t c =
    subst (λ (z : Result TypedAlike Fault). SaysAlike c.put_operand.result z) (sym (goes _ _ _ (shown_all_typed c.in_ok-others.others) (walk.shift_goes _ _ _ _ _ _ _ _ _ _
    c.in-Some.ensures.cases.0 (walk.next_of _ _ _ _ _ _ _ _ c.in-Some.ensures.cases.0 (c.add_sites-next.ensures _ (marks.first_marked _ _ _ _ c.in-Some.ensures.cases.0 c.requires.marked))
    c.requires.able) c.in_ok-operand.ensures.says (ap (map shown_wanted) c.deref.ensures.value ∙ c.in_ok-amounts.ensures _ (marks.rest_marked _ _ _ _ c.in-Some.ensures.cases.0
    c.requires.marked))) c.in_ok-others.ensures.says)) c.put_operand.ensures.says

pub check_alike-returns-in_default-clause-says : goal.check_alike-returns-in_default-clause-says
check_alike-returns-in_default-clause-says t c =
    subst (λ (z : Expressions). SaysAlike c.none_alike.result (check_alike (known c.args.context.now.heads.now c.args.context.now.unit) (shown_scope c.args.scope.now) c.args.first_site
    c.args.place (shown_wanted c.args.wanted) z)) (sym (walk.no_list _ c.in_default.ensures.cases)) (c.none_alike.ensures.says (known c.args.context.now.heads.now c.args.context.now.unit)
    (shown_scope c.args.scope.now) c.args.first_site)

pub check_alike-check_alike-requires : goal.check_alike-check_alike-requires
check_alike-check_alike-requires t c =
    let smaller = walk.less_rest _ _ _ c.in-Some.ensures.cases.0 in
    let ok = walk.rest_of _ _ _ _ _ _ _ _ c.in-Some.ensures.cases.0 (c.add_sites-next.ensures _ (marks.first_marked _ _ _ _ c.in-Some.ensures.cases.0 c.requires.marked)) c.requires.able in
    let wide = c.requires.wanted in
    let marked = marks.rest_marked _ _ _ _ c.in-Some.ensures.cases.0 c.requires.marked in
    search rules

pub check_alike-check_expression-requires : goal.check_alike-check_expression-requires
check_alike-check_expression-requires t c =
    let smaller = walk.less_first _ _ _ c.in-Some.ensures.cases.0 in
    let ok = walk.first_of _ _ _ _ _ _ _ c.in-Some.ensures.cases.0 c.requires.able in
    let wide : HasWidthOfWord c.in_ok-others.others.width = walk.alike_wide _ _ _ _ _ _ _ _ (walk.rest_of _ _ _ _ _ _ _ _ c.in-Some.ensures.cases.0 (c.add_sites-next.ensures _
    (marks.first_marked _ _ _ _ c.in-Some.ensures.cases.0 c.requires.marked)) c.requires.able) c.requires.wanted c.in_ok-others.ensures.says in
    let marked = marks.first_marked _ _ _ _ c.in-Some.ensures.cases.0 c.requires.marked in
    search rules

pub check_alike-returns-in_err-others-clause-says : goal.check_alike-returns-in_err-others-clause-says
check_alike-returns-in_err-others-clause-says t c =
    let p = err_from_is_err_and c.from_residual.result c.from_residual.ensures.1 in
    rw (p.1, p.2) (fails c.in_err-others.field-0.0 _ _ _ (walk.alike_later _ _ _ _ _ _ _ _ _ c.in-Some.ensures.cases.0
    (sym (c.comes_later-later.ensures ∙ ap (λ (b : Bool). is_any (shown_wanted c.args.wanted) && b) (c.is_flexible-flexible.ensures _ (marks.first_marked _ _ _ _ c.in-Some.ensures.cases.0
    c.requires.marked))) ∙ c.if-later.true) (walk.next_of _ _ _ _ _ _ _ _ c.in-Some.ensures.cases.0 (c.add_sites-next.ensures _ (marks.first_marked _ _ _ _ c.in-Some.ensures.cases.0
    c.requires.marked)) c.requires.able)) c.in_err-others.ensures.says)

pub check_alike-returns-in_err-operand-clause-says : goal.check_alike-returns-in_err-operand-clause-says
check_alike-returns-in_err-operand-clause-says t c =
    let p = err_from_is_err_and c.from_residual-in_err-operand.result c.from_residual-in_err-operand.ensures.1 in
    rw (p.1, p.2) (fails c.in_err-operand.field-0.0 _ _ _ (goes _ _ _ (shown_alike c.in_ok-others.others) (walk.alike_later _ _ _ _ _ _ _ _ _ c.in-Some.ensures.cases.0
    (sym (c.comes_later-later.ensures ∙ ap (λ (b : Bool). is_any (shown_wanted c.args.wanted) && b) (c.is_flexible-flexible.ensures _ (marks.first_marked _ _ _ _ c.in-Some.ensures.cases.0
    c.requires.marked))) ∙ c.if-later.true) (walk.next_of _ _ _ _ _ _ _ _ c.in-Some.ensures.cases.0 (c.add_sites-next.ensures _ (marks.first_marked _ _ _ _ c.in-Some.ensures.cases.0
    c.requires.marked)) c.requires.able)) c.in_ok-others.ensures.says) c.in_err-operand.ensures.says)

pub check_alike-returns-then-later-clause-says : goal.check_alike-returns-then-later-clause-says
check_alike-returns-then-later-clause-says t c =
    subst (λ (z : Result TypedAlike Fault). SaysAlike c.put_operand.result z) (sym (goes _ _ _ (shown_typed c.in_ok-operand.operand) (goes _ _ _ (shown_alike c.in_ok-others.others)
    (walk.alike_later _ _ _ _ _ _ _ _ _ c.in-Some.ensures.cases.0 (sym (c.comes_later-later.ensures ∙ ap (λ (b : Bool). is_any (shown_wanted c.args.wanted) && b) (c.is_flexible-flexible.ensures _
    (marks.first_marked _ _ _ _ c.in-Some.ensures.cases.0 c.requires.marked))) ∙ c.if-later.true) (walk.next_of _ _ _ _ _ _ _ _ c.in-Some.ensures.cases.0 (c.add_sites-next.ensures _
    (marks.first_marked _ _ _ _ c.in-Some.ensures.cases.0 c.requires.marked)) c.requires.able)) c.in_ok-others.ensures.says) c.in_ok-operand.ensures.says)) c.put_operand.ensures.says

pub check_alike-check_expression-requires-2 : goal.check_alike-check_expression-requires-2
check_alike-check_expression-requires-2 t c =
    let smaller = walk.less_first _ _ _ c.in-Some.ensures.cases.0 in
    let ok = walk.first_of _ _ _ _ _ _ _ c.in-Some.ensures.cases.0 c.requires.able in
    let wide = c.requires.wanted in
    let marked = marks.first_marked _ _ _ _ c.in-Some.ensures.cases.0 c.requires.marked in
    search rules

pub check_alike-check_alike-requires-2 : goal.check_alike-check_alike-requires-2
check_alike-check_alike-requires-2 t c =
    let smaller = walk.less_rest _ _ _ c.in-Some.ensures.cases.0 in
    let ok = walk.rest_of _ _ _ _ _ _ _ _ c.in-Some.ensures.cases.0 (c.add_sites-next.ensures _ (marks.first_marked _ _ _ _ c.in-Some.ensures.cases.0 c.requires.marked)) c.requires.able in
    let wide : HasWidthOfWord c.in_ok-operand-2.operand.width = walk.found_wide _ _ _ _ _ _ _ _ (walk.first_of _ _ _ _ _ _ _ c.in-Some.ensures.cases.0 c.requires.able) c.requires.wanted
    c.in_ok-operand-2.ensures.says in
    let marked = marks.rest_marked _ _ _ _ c.in-Some.ensures.cases.0 c.requires.marked in
    search rules

pub check_alike-returns-in_err-operand-2-clause-says : goal.check_alike-returns-in_err-operand-2-clause-says
check_alike-returns-in_err-operand-2-clause-says t c =
    let p = err_from_is_err_and c.from_residual-in_err-operand-2.result c.from_residual-in_err-operand-2.ensures.1 in
    rw (p.1, p.2) (fails c.in_err-operand-2.field-0.0 _ _ _ (walk.alike_first _ _ _ _ _ _ _ _ _ c.in-Some.ensures.cases.0
    (sym (c.comes_later-later.ensures ∙ ap (λ (b : Bool). is_any (shown_wanted c.args.wanted) && b) (c.is_flexible-flexible.ensures _ (marks.first_marked _ _ _ _ c.in-Some.ensures.cases.0
    c.requires.marked))) ∙ c.if-later.false) (walk.next_of _ _ _ _ _ _ _ _ c.in-Some.ensures.cases.0 (c.add_sites-next.ensures _ (marks.first_marked _ _ _ _ c.in-Some.ensures.cases.0
    c.requires.marked)) c.requires.able)) c.in_err-operand-2.ensures.says)

pub check_alike-returns-in_err-others-2-clause-says : goal.check_alike-returns-in_err-others-2-clause-says
check_alike-returns-in_err-others-2-clause-says t c =
    let p = err_from_is_err_and c.from_residual-in_err-others-2.result c.from_residual-in_err-others-2.ensures.1 in
    rw (p.1, p.2) (fails c.in_err-others-2.field-0.0 _ _ _ (goes _ _ _ (shown_typed c.in_ok-operand-2.operand) (walk.alike_first _ _ _ _ _ _ _ _ _ c.in-Some.ensures.cases.0
    (sym (c.comes_later-later.ensures ∙ ap (λ (b : Bool). is_any (shown_wanted c.args.wanted) && b) (c.is_flexible-flexible.ensures _ (marks.first_marked _ _ _ _ c.in-Some.ensures.cases.0
    c.requires.marked))) ∙ c.if-later.false) (walk.next_of _ _ _ _ _ _ _ _ c.in-Some.ensures.cases.0 (c.add_sites-next.ensures _ (marks.first_marked _ _ _ _ c.in-Some.ensures.cases.0
    c.requires.marked)) c.requires.able)) c.in_ok-operand-2.ensures.says) c.in_err-others-2.ensures.says)

pub check_alike-returns-clause-says : goal.check_alike-returns-clause-says
check_alike-returns-clause-says t c =
    subst (λ (z : Result TypedAlike Fault). SaysAlike c.put_operand-2.result z) (sym (goes _ _ _ (shown_alike c.in_ok-others-2.others) (goes _ _ _ (shown_typed c.in_ok-operand-2.operand)
    (walk.alike_first _ _ _ _ _ _ _ _ _ c.in-Some.ensures.cases.0 (sym (c.comes_later-later.ensures ∙ ap (λ (b : Bool). is_any (shown_wanted c.args.wanted) && b) (c.is_flexible-flexible.ensures _
    (marks.first_marked _ _ _ _ c.in-Some.ensures.cases.0 c.requires.marked))) ∙ c.if-later.false) (walk.next_of _ _ _ _ _ _ _ _ c.in-Some.ensures.cases.0 (c.add_sites-next.ensures _
    (marks.first_marked _ _ _ _ c.in-Some.ensures.cases.0 c.requires.marked)) c.requires.able)) c.in_ok-operand-2.ensures.says) c.in_ok-others-2.ensures.says)) c.put_operand-2.ensures.says

pub check_bound-check_expression-requires : goal.check_bound-check_expression-requires
check_bound-check_expression-requires t c =
    let smaller : 4 * nodes (shown_expression c.in-Some.first.now.value) < 4 * nodes_bound (shown_bindings c.args.bound.now) + 1 = walk.bound_less_first _ _ _ c.in-Some.ensures.cases.0 in
    let ok = walk.bound_first _ _ _ _ _ _ _ c.in-Some.ensures.cases.0 c.requires.able in
    let wide : HasWideWanted c.as_written-wanted.result = walk.bound_wanted _ _ _ _ _ _ _ _ c.in-Some.ensures.cases.0 c.requires.able c.as_written-wanted.ensures in
    let marked : IsMarked (known c.args.context.now.heads.now c.args.context.now.unit) c.in-Some.first.now.value = marks.value_marked _ _ _ _ c.in-Some.ensures.cases.0 c.requires.marked in
    search rules

pub check_bound-check_bound-requires : goal.check_bound-check_bound-requires
check_bound-check_bound-requires t c =
    let smaller : 4 * nodes_bound (shown_bindings c.in-Some.rest.now) + 1 < 4 * nodes_bound (shown_bindings c.args.bound.now) + 1 = walk.bound_less_rest _ _ _ c.in-Some.ensures.cases.0 in
    let ok = walk.bound_rest _ _ _ _ _ _ _ _ c.in-Some.ensures.cases.0 (c.add_sites-next.ensures _ (marks.value_marked _ _ _ _ c.in-Some.ensures.cases.0 c.requires.marked)) c.requires.able in
    let marked : BoundMarked (known c.args.context.now.heads.now c.args.context.now.unit) c.in-Some.rest.now = marks.others_marked _ _ _ _ c.in-Some.ensures.cases.0 c.requires.marked in
    search rules

pub check_bound-returns-in_default-clause-says : goal.check_bound-returns-in_default-clause-says
check_bound-returns-in_default-clause-says t c = walk.no_bound _ _ _ _ c.in_default.ensures.cases ∙ walk.ok_all _ _ (sym c.none_typed.ensures.none)

pub check_bound-returns-in_err-value-clause-says : goal.check_bound-returns-in_err-value-clause-says
check_bound-returns-in_err-value-clause-says t c =
    let p = err_from_is_err_and c.from_residual.result c.from_residual.ensures.1 in
    rw (p.1, p.2) (fails c.in_err-value.field-0.0 _ _ _ (walk.bound_is _ _ _ _ _ _ _ _ c.in-Some.ensures.cases.0 c.as_written-wanted.ensures (walk.bound_next _ _ _ _ _ _ _ _
    c.in-Some.ensures.cases.0 (c.add_sites-next.ensures _ (marks.value_marked _ _ _ _ c.in-Some.ensures.cases.0 c.requires.marked)) c.requires.able)) c.in_err-value.ensures.says)

pub check_bound-returns-in_err-others-clause-says : goal.check_bound-returns-in_err-others-clause-says
check_bound-returns-in_err-others-clause-says t c =
    let p = err_from_is_err_and c.from_residual-in_err-others.result c.from_residual-in_err-others.ensures.1 in
    rw (p.1, p.2) (fails c.in_err-others.field-0.0 _ _ _ (goes _ _ _ (shown_typed c.in_ok-value.value) (walk.bound_is _ _ _ _ _ _ _ _ c.in-Some.ensures.cases.0 c.as_written-wanted.ensures
    (walk.bound_next _ _ _ _ _ _ _ _ c.in-Some.ensures.cases.0 (c.add_sites-next.ensures _ (marks.value_marked _ _ _ _ c.in-Some.ensures.cases.0 c.requires.marked)) c.requires.able))
    c.in_ok-value.ensures.says) c.in_err-others.ensures.says)

pub check_bound-returns-clause-says : goal.check_bound-returns-clause-says
check_bound-returns-clause-says t c =
    subst (λ (z : Result TypedAll Fault). SaysAll c.put_first.result z) (sym (goes _ _ _ (shown_all_typed c.in_ok-others.others) (goes _ _ _ (shown_typed c.in_ok-value.value)
    (walk.bound_is _ _ _ _ _ _ _ _ c.in-Some.ensures.cases.0 c.as_written-wanted.ensures (walk.bound_next _ _ _ _ _ _ _ _ c.in-Some.ensures.cases.0 (c.add_sites-next.ensures _
    (marks.value_marked _ _ _ _ c.in-Some.ensures.cases.0 c.requires.marked)) c.requires.able)) c.in_ok-value.ensures.says) c.in_ok-others.ensures.says)) c.put_first.ensures.says

pub check_choice-returns-then-not-known-clause-says : goal.check_choice-returns-then-not-known-clause-says
check_choice-returns-then-not-known-clause-says t c =
    walk.refused_is c.refused.result _ _ c.refused.ensures (walk.choice_not (known c.args.context.now.heads.now c.args.context.now.unit) (shown_scope c.args.scope.now) c.args.position.tail
    c.args.position.first_site (shown_wanted c.args.position.wanted) c.args.place (shown_expression c.args.condition.now) (shown_expression c.args.both.first.now)
    (shown_expression c.args.both.second.now) (sym (c.has_width-known.ensures ∙ ap (λ (b : Bool). is_known (shown_wanted c.args.position.wanted) b) (c.are_both_flexible-flexible.ensures
    (known c.args.context.now.heads.now c.args.context.now.unit) c.requires.marked.1 c.requires.marked.2)) ∙ c.if-not-known.true))

pub check_choice-check_expression-requires : goal.check_choice-check_expression-requires
check_choice-check_expression-requires t c =
    let smaller : 4 * nodes (shown_expression c.args.condition.now) < 4 * (nodes (shown_expression c.args.condition.now) + (nodes (shown_expression c.args.both.first.now) + nodes
    (shown_expression c.args.both.second.now))) + 3 = omega arith in
    let ok : MayCheck c.args.context.now.heads.now c.args.context.now.unit (shown_scope c.args.scope.now) c.args.position.first_site (shown_expression c.args.condition.now) = walk.may_part _ _ _
    _ _ _ _ _ c.requires.able c.requires.able.range.0 (omega (arith, c.requires.able.within)) (omega arith) in
    let wide : HasWidthOfWord 1 = (omega arith, omega arith) in
    let marked : IsMarked (known c.args.context.now.heads.now c.args.context.now.unit) c.args.condition.now = c.requires.marked.0 in
    search rules

pub check_choice-check_branches-requires : goal.check_choice-check_branches-requires
check_choice-check_branches-requires t c =
    let smaller : 4 * (nodes (shown_expression c.args.both.first.now) + nodes (shown_expression c.args.both.second.now)) + 1 < 4 * (nodes (shown_expression c.args.condition.now) +
    (nodes (shown_expression c.args.both.first.now) + nodes (shown_expression c.args.both.second.now))) + 3 = omega arith in
    let ok : MayWalk c.args.context.now.heads.now (shown_scope c.args.scope.now) c.add_sites-next.result (IsInRange (shown_expression c.args.both.first.now) × IsInRange
    (shown_expression c.args.both.second.now)) (sites (known c.args.context.now.heads.now c.args.context.now.unit) (shown_expression c.args.both.first.now) + sites
    (known c.args.context.now.heads.now c.args.context.now.unit) (shown_expression c.args.both.second.now)) (nodes (shown_expression c.args.both.first.now) + nodes
    (shown_expression c.args.both.second.now)) = walk.may_part _ _ _ _ _ _ _ _ c.requires.able (c.requires.able.range.1, c.requires.able.range.2)
    (omega (arith, c.requires.able.within, (c.add_sites-next.ensures _ c.requires.marked.0))) (omega arith) in
    let wide = c.requires.wanted in
    let marked : IsMarked (known c.args.context.now.heads.now c.args.context.now.unit) c.args.both.first.now × IsMarked (known c.args.context.now.heads.now c.args.context.now.unit)
    c.args.both.second.now = (c.requires.marked.1, c.requires.marked.2) in
    search rules

pub check_choice-returns-in_err-test-clause-says : goal.check_choice-returns-in_err-test-clause-says
check_choice-returns-in_err-test-clause-says t c =
    let p = err_from_is_err_and c.from_residual.result c.from_residual.ensures.1 in
    rw (p.1, p.2) (fails c.in_err-test.field-0.0 _ _ _ (walk.choice_is (known c.args.context.now.heads.now c.args.context.now.unit) (shown_scope c.args.scope.now) c.args.position.tail
    c.args.position.first_site (shown_wanted c.args.position.wanted) c.args.place (shown_expression c.args.condition.now) (shown_expression c.args.both.first.now)
    (shown_expression c.args.both.second.now) c.add_sites-next.result (sym (c.has_width-known.ensures ∙ ap (λ (b : Bool). is_known (shown_wanted c.args.position.wanted) b)
    (c.are_both_flexible-flexible.ensures (known c.args.context.now.heads.now c.args.context.now.unit) c.requires.marked.1 c.requires.marked.2)) ∙ c.if-not-known.false)
    (walk.next_site c.args.position.first_site (sites (known c.args.context.now.heads.now c.args.context.now.unit) (shown_expression c.args.condition.now)) c.add_sites-next.result
    (c.add_sites-next.ensures (known c.args.context.now.heads.now c.args.context.now.unit) c.requires.marked.0) (omega (arith, c.requires.able.within)))) c.in_err-test.ensures.says)

pub check_choice-returns-clause-says : goal.check_choice-returns-clause-says
check_choice-returns-clause-says t c =
    subst (λ (z : Result Typed Fault). Says c.check_branches.result z)
    (sym (goes _ _ _ (shown_typed c.in_ok-test.test) (walk.choice_is (known c.args.context.now.heads.now c.args.context.now.unit) (shown_scope c.args.scope.now) c.args.position.tail
    c.args.position.first_site (shown_wanted c.args.position.wanted) c.args.place (shown_expression c.args.condition.now) (shown_expression c.args.both.first.now)
    (shown_expression c.args.both.second.now) c.add_sites-next.result (sym (c.has_width-known.ensures ∙ ap (λ (b : Bool). is_known (shown_wanted c.args.position.wanted) b)
    (c.are_both_flexible-flexible.ensures (known c.args.context.now.heads.now c.args.context.now.unit) c.requires.marked.1 c.requires.marked.2)) ∙ c.if-not-known.false)
    (walk.next_site c.args.position.first_site (sites (known c.args.context.now.heads.now c.args.context.now.unit) (shown_expression c.args.condition.now)) c.add_sites-next.result
    (c.add_sites-next.ensures (known c.args.context.now.heads.now c.args.context.now.unit) c.requires.marked.0) (omega (arith, c.requires.able.within)))) c.in_ok-test.ensures.says))
    c.check_branches.ensures.says

pub check_branches-check_expression-requires : goal.check_branches-check_expression-requires
check_branches-check_expression-requires t c =
    let smaller : 4 * nodes (shown_expression c.args.both.second.now) < 4 * (nodes (shown_expression c.args.both.first.now) + nodes (shown_expression c.args.both.second.now)) + 1 = omega arith in
    let next = c.add_sites-next.ensures (known c.args.context.now.heads.now c.args.context.now.unit) c.requires.marked.0 in
    let ok : MayCheck c.args.context.now.heads.now c.args.context.now.unit (shown_scope c.args.scope.now) c.add_sites-next.result (shown_expression c.args.both.second.now) = walk.may_part _ _ _ _
    _ _ _ _ c.requires.able c.requires.able.range.1 (omega (arith, c.requires.able.within, next)) (omega arith) in
    let wide = c.requires.wanted in
    let first_marked : IsMarked (known c.args.context.now.heads.now c.args.context.now.unit) c.args.both.first.now = c.requires.marked.0 in
    let second_marked : IsMarked (known c.args.context.now.heads.now c.args.context.now.unit) c.args.both.second.now = c.requires.marked.1 in
    search rules

pub check_branches-check_expression-requires-then-later : goal.check_branches-check_expression-requires-then-later
check_branches-check_expression-requires-then-later t c =
    let smaller : 4 * nodes (shown_expression c.args.both.first.now) < 4 * (nodes (shown_expression c.args.both.first.now) + nodes (shown_expression c.args.both.second.now)) + 1 = omega arith in
    let ok : MayCheck c.args.context.now.heads.now c.args.context.now.unit (shown_scope c.args.scope.now) c.args.position.first_site (shown_expression c.args.both.first.now) = walk.may_part _ _ _
    _ _ _ _ _ c.requires.able c.requires.able.range.0 (omega (arith, c.requires.able.within)) (omega arith) in
    let wide : HasWidthOfWord c.in_ok-second.second.width = walk.found_wide _ _ _ _ _ _ _ _ (walk.may_part _ _ _ _ _ _ _ _ c.requires.able c.requires.able.range.1
    (omega (arith, c.requires.able.within, (c.add_sites-next.ensures _ c.requires.marked.0))) (omega arith)) c.requires.wanted c.in_ok-second.ensures.says in
    search rules

pub check_branches-returns-in_err-second-clause-says : goal.check_branches-returns-in_err-second-clause-says
check_branches-returns-in_err-second-clause-says t c =
    let p = err_from_is_err_and c.from_residual.result c.from_residual.ensures.1 in
    rw (p.1, p.2) (fails c.in_err-second.field-0.0 _ _ _ (walk.branches_later (known c.args.context.now.heads.now c.args.context.now.unit) (shown_scope c.args.scope.now) c.args.position.tail
    c.args.position.first_site (shown_wanted c.args.position.wanted) (shown_expression c.args.both.first.now) (shown_expression c.args.both.second.now) (shown_term c.args.test)
    c.add_sites-next.result (sym (c.comes_later-later.ensures ∙ ap (λ (b : Bool). is_any (shown_wanted c.args.position.wanted) && b) (c.is_flexible-flexible.ensures
    (known c.args.context.now.heads.now c.args.context.now.unit) c.requires.marked.0)) ∙ c.if-later.true) (walk.next_site c.args.position.first_site
    (sites (known c.args.context.now.heads.now c.args.context.now.unit) (shown_expression c.args.both.first.now)) c.add_sites-next.result (c.add_sites-next.ensures
    (known c.args.context.now.heads.now c.args.context.now.unit) c.requires.marked.0) (omega (arith, c.requires.able.within)))) c.in_err-second.ensures.says)

pub check_branches-returns-in_err-first-clause-says : goal.check_branches-returns-in_err-first-clause-says
check_branches-returns-in_err-first-clause-says t c =
    let p = err_from_is_err_and c.from_residual-in_err-first.result c.from_residual-in_err-first.ensures.1 in
    rw (p.1, p.2) (fails c.in_err-first.field-0.0 _ _ _ (goes _ _ _ (shown_typed c.in_ok-second.second) (walk.branches_later (known c.args.context.now.heads.now c.args.context.now.unit)
    (shown_scope c.args.scope.now) c.args.position.tail c.args.position.first_site (shown_wanted c.args.position.wanted) (shown_expression c.args.both.first.now)
    (shown_expression c.args.both.second.now) (shown_term c.args.test) c.add_sites-next.result (sym (c.comes_later-later.ensures ∙ ap (λ (b : Bool). is_any (shown_wanted c.args.position.wanted)
    && b) (c.is_flexible-flexible.ensures (known c.args.context.now.heads.now c.args.context.now.unit) c.requires.marked.0)) ∙ c.if-later.true) (walk.next_site c.args.position.first_site
    (sites (known c.args.context.now.heads.now c.args.context.now.unit) (shown_expression c.args.both.first.now)) c.add_sites-next.result (c.add_sites-next.ensures
    (known c.args.context.now.heads.now c.args.context.now.unit) c.requires.marked.0) (omega (arith, c.requires.able.within)))) c.in_ok-second.ensures.says) c.in_err-first.ensures.says)

pub check_branches-returns-then-later-clause-says : goal.check_branches-returns-then-later-clause-says
check_branches-returns-then-later-clause-says t c =
    subst (λ (z : Result Typed Fault). Says c.make_if.result z) (sym (goes _ _ _ (shown_typed c.in_ok-first.first) (goes _ _ _ (shown_typed c.in_ok-second.second)
    (walk.branches_later (known c.args.context.now.heads.now c.args.context.now.unit) (shown_scope c.args.scope.now) c.args.position.tail c.args.position.first_site
    (shown_wanted c.args.position.wanted) (shown_expression c.args.both.first.now) (shown_expression c.args.both.second.now) (shown_term c.args.test) c.add_sites-next.result
    (sym (c.comes_later-later.ensures ∙ ap (λ (b : Bool). is_any (shown_wanted c.args.position.wanted) && b) (c.is_flexible-flexible.ensures (known c.args.context.now.heads.now
    c.args.context.now.unit) c.requires.marked.0)) ∙ c.if-later.true) (walk.next_site c.args.position.first_site (sites (known c.args.context.now.heads.now c.args.context.now.unit)
    (shown_expression c.args.both.first.now)) c.add_sites-next.result (c.add_sites-next.ensures (known c.args.context.now.heads.now c.args.context.now.unit) c.requires.marked.0)
    (omega (arith, c.requires.able.within)))) c.in_ok-second.ensures.says) c.in_ok-first.ensures.says)) c.make_if.ensures.says

pub check_branches-check_expression-requires-2 : goal.check_branches-check_expression-requires-2
check_branches-check_expression-requires-2 t c =
    let smaller : 4 * nodes (shown_expression c.args.both.first.now) < 4 * (nodes (shown_expression c.args.both.first.now) + nodes (shown_expression c.args.both.second.now)) + 1 = omega arith in
    let ok : MayCheck c.args.context.now.heads.now c.args.context.now.unit (shown_scope c.args.scope.now) c.args.position.first_site (shown_expression c.args.both.first.now) = walk.may_part _ _ _
    _ _ _ _ _ c.requires.able c.requires.able.range.0 (omega (arith, c.requires.able.within)) (omega arith) in
    let wide = c.requires.wanted in
    let first_marked : IsMarked (known c.args.context.now.heads.now c.args.context.now.unit) c.args.both.first.now = c.requires.marked.0 in
    let second_marked : IsMarked (known c.args.context.now.heads.now c.args.context.now.unit) c.args.both.second.now = c.requires.marked.1 in
    search rules

pub check_branches-check_expression-requires-3 : goal.check_branches-check_expression-requires-3
check_branches-check_expression-requires-3 t c =
    let smaller : 4 * nodes (shown_expression c.args.both.second.now) < 4 * (nodes (shown_expression c.args.both.first.now) + nodes (shown_expression c.args.both.second.now)) + 1 = omega arith in
    let next = c.add_sites-next.ensures (known c.args.context.now.heads.now c.args.context.now.unit) c.requires.marked.0 in
    let ok : MayCheck c.args.context.now.heads.now c.args.context.now.unit (shown_scope c.args.scope.now) c.add_sites-next.result (shown_expression c.args.both.second.now) = walk.may_part _ _ _ _
    _ _ _ _ c.requires.able c.requires.able.range.1 (omega (arith, c.requires.able.within, next)) (omega arith) in
    let wide : HasWidthOfWord c.in_ok-first-2.first.width = walk.found_wide _ _ _ _ _ _ _ _ (walk.may_part _ _ _ _ _ _ _ _ c.requires.able c.requires.able.range.0
    (omega (arith, c.requires.able.within)) (omega arith)) c.requires.wanted c.in_ok-first-2.ensures.says in
    let first_marked : IsMarked (known c.args.context.now.heads.now c.args.context.now.unit) c.args.both.first.now = c.requires.marked.0 in
    let second_marked : IsMarked (known c.args.context.now.heads.now c.args.context.now.unit) c.args.both.second.now = c.requires.marked.1 in
    search rules

pub check_branches-returns-in_err-first-2-clause-says : goal.check_branches-returns-in_err-first-2-clause-says
check_branches-returns-in_err-first-2-clause-says t c =
    let p = err_from_is_err_and c.from_residual-in_err-first-2.result c.from_residual-in_err-first-2.ensures.1 in
    rw (p.1, p.2) (fails c.in_err-first-2.field-0.0 _ _ _ (walk.branches_first (known c.args.context.now.heads.now c.args.context.now.unit) (shown_scope c.args.scope.now) c.args.position.tail
    c.args.position.first_site (shown_wanted c.args.position.wanted) (shown_expression c.args.both.first.now) (shown_expression c.args.both.second.now) (shown_term c.args.test)
    c.add_sites-next.result (sym (c.comes_later-later.ensures ∙ ap (λ (b : Bool). is_any (shown_wanted c.args.position.wanted) && b) (c.is_flexible-flexible.ensures
    (known c.args.context.now.heads.now c.args.context.now.unit) c.requires.marked.0)) ∙ c.if-later.false) (walk.next_site c.args.position.first_site
    (sites (known c.args.context.now.heads.now c.args.context.now.unit) (shown_expression c.args.both.first.now)) c.add_sites-next.result (c.add_sites-next.ensures
    (known c.args.context.now.heads.now c.args.context.now.unit) c.requires.marked.0) (omega (arith, c.requires.able.within)))) c.in_err-first-2.ensures.says)

pub check_branches-returns-in_err-second-2-clause-says : goal.check_branches-returns-in_err-second-2-clause-says
check_branches-returns-in_err-second-2-clause-says t c =
    let p = err_from_is_err_and c.from_residual-in_err-second-2.result c.from_residual-in_err-second-2.ensures.1 in
    rw (p.1, p.2) (fails c.in_err-second-2.field-0.0 _ _ _ (goes _ _ _ (shown_typed c.in_ok-first-2.first) (walk.branches_first (known c.args.context.now.heads.now c.args.context.now.unit)
    (shown_scope c.args.scope.now) c.args.position.tail c.args.position.first_site (shown_wanted c.args.position.wanted) (shown_expression c.args.both.first.now)
    (shown_expression c.args.both.second.now) (shown_term c.args.test) c.add_sites-next.result (sym (c.comes_later-later.ensures ∙ ap (λ (b : Bool). is_any (shown_wanted c.args.position.wanted)
    && b) (c.is_flexible-flexible.ensures (known c.args.context.now.heads.now c.args.context.now.unit) c.requires.marked.0)) ∙ c.if-later.false) (walk.next_site c.args.position.first_site
    (sites (known c.args.context.now.heads.now c.args.context.now.unit) (shown_expression c.args.both.first.now)) c.add_sites-next.result (c.add_sites-next.ensures
    (known c.args.context.now.heads.now c.args.context.now.unit) c.requires.marked.0) (omega (arith, c.requires.able.within)))) c.in_ok-first-2.ensures.says) c.in_err-second-2.ensures.says)

pub check_branches-returns-clause-says : goal.check_branches-returns-clause-says
check_branches-returns-clause-says t c =
    subst (λ (z : Result Typed Fault). Says c.make_if-2.result z) (sym (goes _ _ _ (shown_typed c.in_ok-second-2.second) (goes _ _ _ (shown_typed c.in_ok-first-2.first)
    (walk.branches_first (known c.args.context.now.heads.now c.args.context.now.unit) (shown_scope c.args.scope.now) c.args.position.tail c.args.position.first_site
    (shown_wanted c.args.position.wanted) (shown_expression c.args.both.first.now) (shown_expression c.args.both.second.now) (shown_term c.args.test) c.add_sites-next.result
    (sym (c.comes_later-later.ensures ∙ ap (λ (b : Bool). is_any (shown_wanted c.args.position.wanted) && b) (c.is_flexible-flexible.ensures (known c.args.context.now.heads.now
    c.args.context.now.unit) c.requires.marked.0)) ∙ c.if-later.false) (walk.next_site c.args.position.first_site (sites (known c.args.context.now.heads.now c.args.context.now.unit)
    (shown_expression c.args.both.first.now)) c.add_sites-next.result (c.add_sites-next.ensures (known c.args.context.now.heads.now c.args.context.now.unit) c.requires.marked.0)
    (omega (arith, c.requires.able.within)))) c.in_ok-first-2.ensures.says) c.in_ok-second-2.ensures.says)) c.make_if-2.ensures.says

pub check_binding-returns-then-not-known-clause-says : goal.check_binding-returns-then-not-known-clause-says
check_binding-returns-then-not-known-clause-says t c =
    walk.refused_is c.refused.result _ _ c.refused.ensures (walk.binding_not (known c.args.context.now.heads.now c.args.context.now.unit) (shown_scope c.args.scope.now) c.args.position.tail
    c.args.position.first_site (shown_wanted c.args.position.wanted) c.args.place (shown_bindings c.args.bound.now) (shown_expression c.args.body.now)
    (sym (c.has_width-known.ensures ∙ ap (λ (b : Bool). is_known (shown_wanted c.args.position.wanted) b) (c.is_flexible-flexible.ensures (known c.args.context.now.heads.now
    c.args.context.now.unit) c.requires.marked.1)) ∙ c.if-not-known.true))

pub check_binding-check_bound-requires : goal.check_binding-check_bound-requires
check_binding-check_bound-requires t c =
    let smaller : 4 * nodes_bound (shown_bindings c.args.bound.now) + 1 < 4 * (nodes_bound (shown_bindings c.args.bound.now) + nodes (shown_expression c.args.body.now)) + 3 = omega arith in
    let ok : MayBind c.args.context.now.heads.now c.args.context.now.unit (shown_scope c.args.scope.now) c.args.position.first_site (shown_bindings c.args.bound.now) = walk.may_part _ _ _ _ _ _ _
    _ c.requires.able c.requires.able.range.0 (omega (arith, c.requires.able.within)) (omega arith) in
    let marked : BoundMarked (known c.args.context.now.heads.now c.args.context.now.unit) c.args.bound.now = c.requires.marked.0 in
    search rules

pub check_binding-check_expression-requires : goal.check_binding-check_expression-requires
check_binding-check_expression-requires t c =
    let smaller : 4 * nodes (shown_expression c.args.body.now) < 4 * (nodes_bound (shown_bindings c.args.bound.now) + nodes (shown_expression c.args.body.now)) + 3 = omega arith in
    let own : shown_slots c.deref-2.result.now ≡ slots (shown_bindings c.args.bound.now) c.in_ok-all.all.widths.items = ap (λ (l : List code_slot.Slot). shown_slots l) c.deref-2.ensures.value ∙
    c.in_ok-own.ensures ∙ ap (λ (ws : List ℕ). slots (shown_bindings c.args.bound.now) ws) c.deref.ensures.value in
    let ok : MayCheck c.args.context.now.heads.now c.args.context.now.unit (shown_scope c.args.scope.now ++ shown_slots c.deref-2.result.now) c.add_bound_sites-next.result
    (shown_expression c.args.body.now) = walk.may_below c.args.context.now.heads.now c.args.context.now.unit (shown_scope c.args.scope.now) (shown_scope c.args.scope.now ++ shown_slots
    c.deref-2.result.now) c.args.position.first_site c.args.place (shown_bindings c.args.bound.now) (shown_expression c.args.body.now) (shown_all_typed c.in_ok-all.all)
    c.add_bound_sites-next.result c.requires.able (c.add_bound_sites-next.ensures (known c.args.context.now.heads.now c.args.context.now.unit) c.requires.marked.0) c.in_ok-all.ensures.says
    (ap (λ (l : List Slot). shown_scope c.args.scope.now ++ l) own) in
    let marked : IsMarked (known c.args.context.now.heads.now c.args.context.now.unit) c.args.body.now = c.requires.marked.1 in
    let wide = c.requires.wanted in
    search rules

pub check_binding-returns-in_err-all-clause-says : goal.check_binding-returns-in_err-all-clause-says
check_binding-returns-in_err-all-clause-says t c =
    let p = err_from_is_err_and c.from_residual.result c.from_residual.ensures.1 in
    rw (p.1, p.2) (fails c.in_err-all.field-0.0 _ _ _ (walk.binding_is (known c.args.context.now.heads.now c.args.context.now.unit) (shown_scope c.args.scope.now) c.args.position.tail
    c.args.position.first_site (shown_wanted c.args.position.wanted) c.args.place (shown_bindings c.args.bound.now) (shown_expression c.args.body.now) c.add_bound_sites-next.result
    (sym (c.has_width-known.ensures ∙ ap (λ (b : Bool). is_known (shown_wanted c.args.position.wanted) b) (c.is_flexible-flexible.ensures (known c.args.context.now.heads.now
    c.args.context.now.unit) c.requires.marked.1)) ∙ c.if-not-known.false) (sym c.find_repeated.ensures ∙ ap twice_at c.in_default.is) (walk.next_site c.args.position.first_site
    (sites_bound (known c.args.context.now.heads.now c.args.context.now.unit) (shown_bindings c.args.bound.now)) c.add_bound_sites-next.result (c.add_bound_sites-next.ensures
    (known c.args.context.now.heads.now c.args.context.now.unit) c.requires.marked.0) (omega (arith, c.requires.able.within)))) c.in_err-all.ensures.says)

pub check_binding-returns-in_err-typed-clause-says : goal.check_binding-returns-in_err-typed-clause-says
check_binding-returns-in_err-typed-clause-says t c =
    let K = known c.args.context.now.heads.now c.args.context.now.unit in
    let p = err_from_is_err_and c.from_residual-in_err-typed.result c.from_residual-in_err-typed.ensures.1 in
    let own : shown_slots c.deref-2.result.now ≡ slots (shown_bindings c.args.bound.now) c.in_ok-all.all.widths.items = ap (λ (l : List code_slot.Slot). shown_slots l) c.deref-2.ensures.value ∙
    c.in_ok-own.ensures ∙ ap (λ (ws : List ℕ). slots (shown_bindings c.args.bound.now) ws) c.deref.ensures.value in
    let body = subst (λ (ss : List Slot). RefusesFault c.in_err-typed.field-0.0 (check K (shown_scope c.args.scope.now ++ ss) c.args.position.tail c.add_bound_sites-next.result
    (shown_wanted c.args.position.wanted) (shown_expression c.args.body.now))) own c.in_err-typed.ensures.says in
    rw (p.1, p.2) (fails c.in_err-typed.field-0.0 _ _ _ (goes _ _ _ (shown_all_typed c.in_ok-all.all)
    (walk.binding_is K (shown_scope c.args.scope.now) c.args.position.tail c.args.position.first_site
    (shown_wanted c.args.position.wanted) c.args.place (shown_bindings c.args.bound.now) (shown_expression c.args.body.now) c.add_bound_sites-next.result
    (sym (c.has_width-known.ensures ∙ ap (λ (b : Bool). is_known (shown_wanted c.args.position.wanted) b) (c.is_flexible-flexible.ensures K c.requires.marked.1))
    ∙ c.if-not-known.false) (sym c.find_repeated.ensures ∙ ap twice_at c.in_default.is)
    (walk.next_site c.args.position.first_site (sites_bound K (shown_bindings c.args.bound.now)) c.add_bound_sites-next.result
    (c.add_bound_sites-next.ensures K c.requires.marked.0) (omega (arith, c.requires.able.within)))) c.in_ok-all.ensures.says) body)

pub check_binding-returns-clause-says : goal.check_binding-returns-clause-says
check_binding-returns-clause-says t c =
    let K = known c.args.context.now.heads.now c.args.context.now.unit in
    let own : shown_slots c.deref-2.result.now ≡ slots (shown_bindings c.args.bound.now) c.in_ok-all.all.widths.items = ap (λ (l : List code_slot.Slot). shown_slots l) c.deref-2.ensures.value ∙
    c.in_ok-own.ensures ∙ ap (λ (ws : List ℕ). slots (shown_bindings c.args.bound.now) ws) c.deref.ensures.value in
    let body = subst (λ (ss : List Slot). check K (shown_scope c.args.scope.now ++ ss) c.args.position.tail c.add_bound_sites-next.result
    (shown_wanted c.args.position.wanted) (shown_expression c.args.body.now) ≡ Ok (shown_typed c.in_ok-typed.typed)) own c.in_ok-typed.ensures.says in
    subst (λ (z : Result Typed Fault). Says c.make_let.result z) (sym (goes _ _ _ (shown_typed c.in_ok-typed.typed) (goes _ _ _ (shown_all_typed c.in_ok-all.all)
    (walk.binding_is K (shown_scope c.args.scope.now) c.args.position.tail c.args.position.first_site
    (shown_wanted c.args.position.wanted) c.args.place (shown_bindings c.args.bound.now) (shown_expression c.args.body.now) c.add_bound_sites-next.result
    (sym (c.has_width-known.ensures ∙ ap (λ (b : Bool). is_known (shown_wanted c.args.position.wanted) b) (c.is_flexible-flexible.ensures K c.requires.marked.1))
    ∙ c.if-not-known.false) (sym c.find_repeated.ensures ∙ ap twice_at c.in_default.is)
    (walk.next_site c.args.position.first_site (sites_bound K (shown_bindings c.args.bound.now)) c.add_bound_sites-next.result
    (c.add_bound_sites-next.ensures K c.requires.marked.0) (omega (arith, c.requires.able.within)))) c.in_ok-all.ensures.says) body)) c.make_let.ensures.says

pub check_applied-check_alike-requires : goal.check_applied-check_alike-requires
check_applied-check_alike-requires t c =
    let smaller : 4 * nodes_in (shown_expressions c.args.operands.now) + 1 < 4 * nodes_in (shown_expressions c.args.operands.now) + 3 = omega arith in
    let ok : MayCheckAll c.args.context.now.heads.now c.args.context.now.unit (shown_scope c.args.scope.now) c.args.position.first_site (shown_expressions c.args.operands.now) = walk.may_part _ _
    _ _ _ _ _ _ c.requires.able c.requires.able.range (omega (arith, c.requires.able.within)) (omega arith) in
    let wide = c.requires.wanted in
    let marked : AreMarked (known c.args.context.now.heads.now c.args.context.now.unit) c.args.operands.now = c.requires.marked in
    search rules

pub check_applied-check_alike-requires-in-Comparing : goal.check_applied-check_alike-requires-in-Comparing
check_applied-check_alike-requires-in-Comparing t c =
    let smaller : 4 * nodes_in (shown_expressions c.args.operands.now) + 1 < 4 * nodes_in (shown_expressions c.args.operands.now) + 3 = omega arith in
    let ok : MayCheckAll c.args.context.now.heads.now c.args.context.now.unit (shown_scope c.args.scope.now) c.args.position.first_site (shown_expressions c.args.operands.now) = walk.may_part _ _
    _ _ _ _ _ _ c.requires.able c.requires.able.range (omega (arith, c.requires.able.within)) (omega arith) in
    search rules

pub check_applied-check_shift-requires : goal.check_applied-check_shift-requires
check_applied-check_shift-requires t c =
    let smaller : 4 * nodes_in (shown_expressions c.args.operands.now) + 1 < 4 * nodes_in (shown_expressions c.args.operands.now) + 3 = omega arith in
    let ok : MayCheckAll c.args.context.now.heads.now c.args.context.now.unit (shown_scope c.args.scope.now) c.args.position.first_site (shown_expressions c.args.operands.now) = walk.may_part _ _
    _ _ _ _ _ _ c.requires.able c.requires.able.range (omega (arith, c.requires.able.within)) (omega arith) in
    let marked : AreMarked (known c.args.context.now.heads.now c.args.context.now.unit) c.args.operands.now = c.requires.marked in
    search rules

pub check_applied-check_found-requires : goal.check_applied-check_found-requires
check_applied-check_found-requires t c =
    let smaller : 4 * nodes_in (shown_expressions c.args.operands.now) + 2 < 4 * nodes_in (shown_expressions c.args.operands.now) + 3 = omega arith in
    let ok : MayCheckAll c.args.context.now.heads.now c.args.context.now.unit (shown_scope c.args.scope.now) c.args.position.first_site (shown_expressions c.args.operands.now) = walk.may_part _ _
    _ _ _ _ _ _ c.requires.able c.requires.able.range (omega (arith, c.requires.able.within)) (omega arith) in
    let marked : AreMarked (known c.args.context.now.heads.now c.args.context.now.unit) c.args.operands.now = c.requires.marked in
    search rules

pub check_found-check_all-requires : goal.check_found-check_all-requires
check_found-check_all-requires t c =
    let smaller : 4 * nodes_in (shown_expressions c.args.operands.now) + 1 < 4 * nodes_in (shown_expressions c.args.operands.now) + 2 = omega arith in
    let ok : MayCheckAll c.args.context.now.heads.now c.args.context.now.unit (shown_scope c.args.scope.now) c.args.first_site (shown_expressions c.args.operands.now) = c.requires.able in
    let each : AllByRecursion HasWideWanted c.deref.result.now = walk.operands_wide None (shown_expressions c.args.operands.now) c.deref.result.now walk.none_wide
    (ap (map shown_wanted) c.deref.ensures.value ∙ c.in_ok-wanted.ensures (known c.args.context.now.heads.now c.args.context.now.unit) c.requires.marked) in
    let marked : AreMarked (known c.args.context.now.heads.now c.args.context.now.unit) c.args.operands.now = c.requires.marked in
    search rules

pub check_found-returns-clause-says : goal.check_found-returns-clause-says
check_found-returns-clause-says t c =
    subst (λ (l : List Wanted). SaysAll c.check_all.result (check_all (known c.args.context.now.heads.now c.args.context.now.unit) (shown_scope c.args.scope.now) c.args.first_site l
    (shown_expressions c.args.operands.now))) (ap (map shown_wanted) c.deref.ensures.value ∙ c.in_ok-wanted.ensures (known c.args.context.now.heads.now c.args.context.now.unit) c.requires.marked)
    c.check_all.ensures.says

pub check_applied-returns-in_err-typed-in-Alike-clause-says : goal.check_applied-returns-in_err-typed-in-Alike-clause-says
check_applied-returns-in_err-typed-in-Alike-clause-says t c =
    let p = err_from_is_err_and c.from_residual.result c.from_residual.ensures.1 in
    rw (p.1, p.2) (fails c.in_err-typed-in-Alike.field-0.0 _ _ _ (walk.alike_is (known c.args.context.now.heads.now c.args.context.now.unit) (shown_scope c.args.scope.now) c.args.position.tail
    c.args.position.first_site (shown_wanted c.args.position.wanted) c.args.place c.args.operator (shown_expressions c.args.operands.now) (sym (ap shown_shape c.in-Alike.is) ∙
    c.shape_of.ensures)) c.in_err-typed-in-Alike.ensures.says)

pub check_applied-returns-in_ok-typed-in-Alike-clause-says : goal.check_applied-returns-in_ok-typed-in-Alike-clause-says
check_applied-returns-in_ok-typed-in-Alike-clause-says t c =
    goes _ _ _ (shown_alike c.in_ok-typed-in-Alike.typed) (walk.alike_is (known c.args.context.now.heads.now c.args.context.now.unit) (shown_scope c.args.scope.now) c.args.position.tail
    c.args.position.first_site (shown_wanted c.args.position.wanted) c.args.place c.args.operator (shown_expressions c.args.operands.now) (sym (ap shown_shape c.in-Alike.is) ∙
    c.shape_of.ensures)) c.in_ok-typed-in-Alike.ensures.says ∙ walk.ok_typed _ _ (walk.same_typed _ _ _ _ (sym c.make_operation.ensures.width) (sym c.make_operation.ensures.term))

pub check_applied-returns-in_err-typed-in-Comparing-clause-says : goal.check_applied-returns-in_err-typed-in-Comparing-clause-says
check_applied-returns-in_err-typed-in-Comparing-clause-says t c =
    let p = err_from_is_err_and c.from_residual-in_err-typed-in-Comparing.result c.from_residual-in_err-typed-in-Comparing.ensures.1 in
    rw (p.1, p.2) (fails c.in_err-typed-in-Comparing.field-0.0 _ _ _ (walk.comparing_is (known c.args.context.now.heads.now c.args.context.now.unit) (shown_scope c.args.scope.now)
    c.args.position.tail c.args.position.first_site (shown_wanted c.args.position.wanted) c.args.place c.args.operator (shown_expressions c.args.operands.now)
    (sym (ap shown_shape c.in-Comparing.is) ∙ c.shape_of.ensures)) c.in_err-typed-in-Comparing.ensures.says)

pub check_applied-returns-in_ok-typed-in-Comparing-clause-says : goal.check_applied-returns-in_ok-typed-in-Comparing-clause-says
check_applied-returns-in_ok-typed-in-Comparing-clause-says t c =
    subst (λ (z : Result Typed Fault). Says c.settled_operation.result z) (sym (goes _ _ _ (shown_alike c.in_ok-typed-in-Comparing.typed) (walk.comparing_is (known c.args.context.now.heads.now
    c.args.context.now.unit) (shown_scope c.args.scope.now) c.args.position.tail c.args.position.first_site (shown_wanted c.args.position.wanted) c.args.place c.args.operator
    (shown_expressions c.args.operands.now) (sym (ap shown_shape c.in-Comparing.is) ∙ c.shape_of.ensures)) c.in_ok-typed-in-Comparing.ensures.says)) c.settled_operation.ensures.says

pub check_applied-returns-in_err-typed-in-Shifting-clause-says : goal.check_applied-returns-in_err-typed-in-Shifting-clause-says
check_applied-returns-in_err-typed-in-Shifting-clause-says t c =
    let p = err_from_is_err_and c.from_residual-in_err-typed-in-Shifting.result c.from_residual-in_err-typed-in-Shifting.ensures.1 in
    rw (p.1, p.2) (fails c.in_err-typed-in-Shifting.field-0.0 _ _ _ (walk.shifting_is (known c.args.context.now.heads.now c.args.context.now.unit) (shown_scope c.args.scope.now)
    c.args.position.tail c.args.position.first_site (shown_wanted c.args.position.wanted) c.args.place c.args.operator (shown_expressions c.args.operands.now)
    (sym (ap shown_shape c.in-Shifting.is) ∙ c.shape_of.ensures)) c.in_err-typed-in-Shifting.ensures.says)

pub check_applied-returns-in_ok-typed-in-Shifting-clause-says : goal.check_applied-returns-in_ok-typed-in-Shifting-clause-says
check_applied-returns-in_ok-typed-in-Shifting-clause-says t c =
    subst (λ (z : Result Typed Fault). Says c.settled_operation-in-Shifting.result z) (sym (goes _ _ _ (shown_alike c.in_ok-typed-in-Shifting.typed)
    (walk.shifting_is (known c.args.context.now.heads.now c.args.context.now.unit) (shown_scope c.args.scope.now) c.args.position.tail c.args.position.first_site
    (shown_wanted c.args.position.wanted) c.args.place c.args.operator (shown_expressions c.args.operands.now) (sym (ap shown_shape c.in-Shifting.is) ∙ c.shape_of.ensures))
    c.in_ok-typed-in-Shifting.ensures.says)) c.settled_operation-in-Shifting.ensures.says

pub check_applied-returns-in_err-typed-in-Resizing-clause-says : goal.check_applied-returns-in_err-typed-in-Resizing-clause-says
check_applied-returns-in_err-typed-in-Resizing-clause-says t c =
    let p = err_from_is_err_and c.from_residual-in_err-typed-in-Resizing.result c.from_residual-in_err-typed-in-Resizing.ensures.1 in
    rw (p.1, p.2) (fails c.in_err-typed-in-Resizing.field-0.0 _ _ _ (walk.resizing_is (known c.args.context.now.heads.now c.args.context.now.unit) (shown_scope c.args.scope.now)
    c.args.position.tail c.args.position.first_site (shown_wanted c.args.position.wanted) c.args.place c.args.operator (shown_expressions c.args.operands.now)
    (sym (ap shown_shape c.in-Resizing.is) ∙ c.shape_of.ensures)) c.in_err-typed-in-Resizing.ensures.says)

pub check_applied-returns-in-Some-clause-says : goal.check_applied-returns-in-Some-clause-says
check_applied-returns-in-Some-clause-says t c =
    subst (λ (z : Result Typed Fault). Says c.settled_operation-in-Some.result z) (sym (goes _ _ _ (shown_all_typed c.in_ok-typed-in-Resizing.typed)
    (walk.resizing_is (known c.args.context.now.heads.now c.args.context.now.unit) (shown_scope c.args.scope.now) c.args.position.tail c.args.position.first_site
    (shown_wanted c.args.position.wanted) c.args.place c.args.operator (shown_expressions c.args.operands.now) (sym (ap shown_shape c.in-Resizing.is) ∙ c.shape_of.ensures))
    c.in_ok-typed-in-Resizing.ensures.says ∙ ap (λ (o : Option ℕ). resized c.args.place (shown_wanted c.args.position.wanted) c.args.operator o
    (shown_terms c.in_ok-typed-in-Resizing.typed.terms.items)) ((sym (c.result_width.ensures ∙ ap (λ (ws : List ℕ). result_width c.args.operator ws) c.deref.ensures.value)) ∙ c.in-Some.is)))
    c.settled_operation-in-Some.ensures.says

pub check_applied-returns-in-None-clause-says : goal.check_applied-returns-in-None-clause-says
check_applied-returns-in-None-clause-says t c =
    walk.refused_is c.refused.result _ _ c.refused.ensures (goes _ _ _ (shown_all_typed c.in_ok-typed-in-Resizing.typed) (walk.resizing_is (known c.args.context.now.heads.now
    c.args.context.now.unit) (shown_scope c.args.scope.now) c.args.position.tail c.args.position.first_site (shown_wanted c.args.position.wanted) c.args.place c.args.operator
    (shown_expressions c.args.operands.now) (sym (ap shown_shape c.in-Resizing.is) ∙ c.shape_of.ensures)) c.in_ok-typed-in-Resizing.ensures.says ∙ ap (λ (o : Option ℕ). resized c.args.place
    (shown_wanted c.args.position.wanted) c.args.operator o (shown_terms c.in_ok-typed-in-Resizing.typed.terms.items))
    ((sym (c.result_width.ensures ∙ ap (λ (ws : List ℕ). result_width c.args.operator ws) c.deref.ensures.value)) ∙ c.in-None.is))

pub check_called-get-head-requires : goal.check_called-get-head-requires
check_called-get-head-requires t c = subst (IsOneOf c.args.context.now.heads.now) c.in-Member.is c.find_callee.ensures.one

pub check_called-check_counted-requires : goal.check_called-check_counted-requires
check_called-check_counted-requires t c =
    let smaller : 4 * nodes_in (shown_expressions c.args.arguments.now) + 2 < 4 * nodes_in (shown_expressions c.args.arguments.now) + 3 = omega arith in
    let ok : MayCheckAll c.args.context.now.heads.now c.args.context.now.unit (shown_scope c.args.scope.now) c.args.position.first_site (shown_expressions c.args.arguments.now) = walk.may_part
    c.args.context.now.heads.now (shown_scope c.args.scope.now) c.args.position.first_site _ _ c.args.position.first_site (sites_in (known c.args.context.now.heads.now c.args.context.now.unit)
    (shown_expressions c.args.arguments.now)) (nodes_in (shown_expressions c.args.arguments.now)) c.requires.able c.requires.able.range (omega (arith, c.requires.able.within)) (omega arith) in
    let wide : WideSlots (shown_head c.get-head.result.now).params = walk.wide_member c.args.context.now.heads.now c.args.context.now.unit c.args.name.now c.in-Member.n c.get-head.result.now
    c.requires.able.heads (walk.callee_member c.args.context.now.heads.now (known c.args.context.now.heads.now c.args.context.now.unit) c.args.name.now c.find_callee.result c.in-Member.n
    c.get-head.result.now c.find_callee.ensures.found c.find_callee.ensures.one c.in-Member.is (got c.args.context.now.heads.now c.in-Member.n c.get-head.result.now c.get-head.ensures)) in
    let few : length c.get-head.result.now.params.items < 2 ^ 32 = walk.few_params c.args.context.now.heads.now c.in-Member.n c.get-head.result.now c.requires.able.params
    (subst (IsOneOf c.args.context.now.heads.now) c.in-Member.is c.find_callee.ensures.one) (got c.args.context.now.heads.now c.in-Member.n c.get-head.result.now c.get-head.ensures) in
    let marked : AreMarked (known c.args.context.now.heads.now c.args.context.now.unit) c.args.arguments.now = c.requires.marked in
    search rules

pub check_called-returns-in_err-all-in-Member-clause-says : goal.check_called-returns-in_err-all-in-Member-clause-says
check_called-returns-in_err-all-in-Member-clause-says t c =
    let p = err_from_is_err_and c.from_residual.result c.from_residual.ensures.1 in
    rw (p.1, p.2) (fails c.in_err-all-in-Member.field-0.0 _ _ _ (walk.loop_is (known c.args.context.now.heads.now c.args.context.now.unit) (shown_scope c.args.scope.now) c.args.position.tail
    c.args.position.first_site (shown_wanted c.args.position.wanted) c.args.place c.args.name.now (shown_expressions c.args.arguments.now) c.in-Member.n (shown_head c.get-head.result.now)
    (walk.callee_member c.args.context.now.heads.now (known c.args.context.now.heads.now c.args.context.now.unit) c.args.name.now c.find_callee.result c.in-Member.n c.get-head.result.now
    c.find_callee.ensures.found c.find_callee.ensures.one c.in-Member.is (got c.args.context.now.heads.now c.in-Member.n c.get-head.result.now c.get-head.ensures)) c.if-not-tail.false)
    c.in_err-all-in-Member.ensures.says)

pub check_called-returns-in_ok-all-in-Member-clause-says : goal.check_called-returns-in_ok-all-in-Member-clause-says
check_called-returns-in_ok-all-in-Member-clause-says t c =
    subst (λ (z : Result Typed Fault). Says c.settled_loop.result z) (sym (goes _ _ _ (shown_all_typed c.in_ok-all-in-Member.all)
    (walk.loop_is (known c.args.context.now.heads.now c.args.context.now.unit) (shown_scope c.args.scope.now) c.args.position.tail c.args.position.first_site (shown_wanted c.args.position.wanted)
    c.args.place c.args.name.now (shown_expressions c.args.arguments.now) c.in-Member.n (shown_head c.get-head.result.now) (walk.callee_member c.args.context.now.heads.now
    (known c.args.context.now.heads.now c.args.context.now.unit) c.args.name.now c.find_callee.result c.in-Member.n c.get-head.result.now c.find_callee.ensures.found c.find_callee.ensures.one
    c.in-Member.is (got c.args.context.now.heads.now c.in-Member.n c.get-head.result.now c.get-head.ensures)) c.if-not-tail.false) c.in_ok-all-in-Member.ensures.says)) c.settled_loop.ensures.says

pub check_called-get-head-requires-in-Above : goal.check_called-get-head-requires-in-Above
check_called-get-head-requires-in-Above t c = subst (IsOneOf c.args.context.now.heads.now) c.in-Above.is c.find_callee.ensures.one

pub check_called-check_counted-requires-in-Above : goal.check_called-check_counted-requires-in-Above
check_called-check_counted-requires-in-Above t c =
    let smaller : 4 * nodes_in (shown_expressions c.args.arguments.now) + 2 < 4 * nodes_in (shown_expressions c.args.arguments.now) + 3 = omega arith in
    let ok : MayCheckAll c.args.context.now.heads.now c.args.context.now.unit (shown_scope c.args.scope.now) (c.args.position.first_site + 1) (shown_expressions c.args.arguments.now) =
    walk.may_part c.args.context.now.heads.now (shown_scope c.args.scope.now) c.args.position.first_site _ _ (c.args.position.first_site + 1)
    (sites_in (known c.args.context.now.heads.now c.args.context.now.unit) (shown_expressions c.args.arguments.now)) (nodes_in (shown_expressions c.args.arguments.now)) c.requires.able
    c.requires.able.range (omega (
      arith,
      c.requires.able.within,
      ap is_site (walk.callee_above c.args.context.now.heads.now (known c.args.context.now.heads.now c.args.context.now.unit)
          c.args.name.now c.find_callee.result c.in-Above.n c.get-head-in-Above.result.now c.find_callee.ensures.found c.find_callee.ensures.one c.in-Above.is (got c.args.context.now.heads.now
          c.in-Above.n c.get-head-in-Above.result.now c.get-head-in-Above.ensures)),
    )) (omega arith) in
    let wide : WideSlots (shown_head c.get-head-in-Above.result.now).params = walk.wide_above c.args.context.now.heads.now c.args.context.now.unit c.args.name.now c.in-Above.n
    c.get-head-in-Above.result.now c.requires.able.heads (walk.callee_above c.args.context.now.heads.now (known c.args.context.now.heads.now c.args.context.now.unit) c.args.name.now
    c.find_callee.result c.in-Above.n c.get-head-in-Above.result.now c.find_callee.ensures.found c.find_callee.ensures.one c.in-Above.is (got c.args.context.now.heads.now c.in-Above.n
    c.get-head-in-Above.result.now c.get-head-in-Above.ensures)) in
    let few : length c.get-head-in-Above.result.now.params.items < 2 ^ 32 = walk.few_params c.args.context.now.heads.now c.in-Above.n c.get-head-in-Above.result.now c.requires.able.params
    (subst (IsOneOf c.args.context.now.heads.now) c.in-Above.is c.find_callee.ensures.one) (got c.args.context.now.heads.now c.in-Above.n c.get-head-in-Above.result.now
    c.get-head-in-Above.ensures) in
    search rules

pub check_called-returns-in_err-all-in-Above-clause-says : goal.check_called-returns-in_err-all-in-Above-clause-says
check_called-returns-in_err-all-in-Above-clause-says t c =
    let p = err_from_is_err_and c.from_residual-in_err-all-in-Above.result c.from_residual-in_err-all-in-Above.ensures.1 in
    rw (p.1, p.2) (fails c.in_err-all-in-Above.field-0.0 _ _ _ (walk.call_is (known c.args.context.now.heads.now c.args.context.now.unit) (shown_scope c.args.scope.now) c.args.position.tail
    c.args.position.first_site (shown_wanted c.args.position.wanted) c.args.place c.args.name.now (shown_expressions c.args.arguments.now) c.in-Above.n (shown_head c.get-head-in-Above.result.now)
    (c.args.position.first_site + 1) (walk.callee_above c.args.context.now.heads.now (known c.args.context.now.heads.now c.args.context.now.unit) c.args.name.now c.find_callee.result c.in-Above.n
    c.get-head-in-Above.result.now c.find_callee.ensures.found c.find_callee.ensures.one c.in-Above.is (got c.args.context.now.heads.now c.in-Above.n c.get-head-in-Above.result.now
    c.get-head-in-Above.ensures)) (omega arith)) c.in_err-all-in-Above.ensures.says)

pub check_called-returns-in_ok-all-in-Above-clause-says : goal.check_called-returns-in_ok-all-in-Above-clause-says
check_called-returns-in_ok-all-in-Above-clause-says t c =
    subst (λ (z : Result Typed Fault). Says c.settled_call.result z) (sym (goes _ _ _ (shown_all_typed c.in_ok-all-in-Above.all)
    (walk.call_is (known c.args.context.now.heads.now c.args.context.now.unit) (shown_scope c.args.scope.now) c.args.position.tail c.args.position.first_site (shown_wanted c.args.position.wanted)
    c.args.place c.args.name.now (shown_expressions c.args.arguments.now) c.in-Above.n (shown_head c.get-head-in-Above.result.now) (c.args.position.first_site + 1)
    (walk.callee_above c.args.context.now.heads.now (known c.args.context.now.heads.now c.args.context.now.unit) c.args.name.now c.find_callee.result c.in-Above.n c.get-head-in-Above.result.now
    c.find_callee.ensures.found c.find_callee.ensures.one c.in-Above.is (got c.args.context.now.heads.now c.in-Above.n c.get-head-in-Above.result.now c.get-head-in-Above.ensures)) (omega arith))
    c.in_ok-all-in-Above.ensures.says)) c.settled_call.ensures.says

pub check_called-overflow_add-next : goal.check_called-overflow_add-next
check_called-overflow_add-next t c = omega (arith, c.requires.able.within)

pub check_called-returns-then-not-tail-clause-says : goal.check_called-returns-then-not-tail-clause-says
check_called-returns-then-not-tail-clause-says t c =
    walk.refused_is c.refused.result _ _ c.refused.ensures (walk.not_tail (known c.args.context.now.heads.now c.args.context.now.unit) (shown_scope c.args.scope.now) c.args.position.tail
    c.args.position.first_site (shown_wanted c.args.position.wanted) c.args.place c.args.name.now (shown_expressions c.args.arguments.now) c.in-Member.n (walk.head_at c.args.context.now.heads.now
    c.in-Member.n) (walk.member_is c.args.context.now.heads.now (known c.args.context.now.heads.now c.args.context.now.unit) c.args.name.now c.find_callee.result c.in-Member.n
    c.find_callee.ensures.found c.find_callee.ensures.one c.in-Member.is) c.if-not-tail.true)

pub check_called-returns-in-Unknown-clause-says : goal.check_called-returns-in-Unknown-clause-says
check_called-returns-in-Unknown-clause-says t c =
    walk.refused_is c.refused-in-Unknown.result _ _ c.refused-in-Unknown.ensures (walk.unknown_is (known c.args.context.now.heads.now c.args.context.now.unit) (shown_scope c.args.scope.now)
    c.args.position.tail c.args.position.first_site (shown_wanted c.args.position.wanted) c.args.place c.args.name.now (shown_expressions c.args.arguments.now) (sym c.find_callee.ensures.found ∙
    ap (shown_callee c.args.context.now.heads.now) c.in-Unknown.is))

pub check_counted-wrong_count-requires-clause-params : goal.check_counted-wrong_count-requires-clause-params
check_counted-wrong_count-requires-clause-params t c = omega (arith, c.requires.counted, ap (λ (l : List code_slot.Slot). length l) c.deref-then-not-same.ensures.value)

pub check_counted-wrong_count-requires-clause-arguments : goal.check_counted-wrong_count-requires-clause-arguments
check_counted-wrong_count-requires-clause-arguments t c = omega (arith, c.requires.able.room, walk.few_arguments (shown_expressions c.args.arguments.now), walk.count_all c.args.arguments.now)

pub check_counted-returns-then-not-same-clause-says : goal.check_counted-returns-then-not-same-clause-says
check_counted-returns-then-not-same-clause-says t c =
    walk.refused_is _ _ _ c.wrong_count.ensures (ap (λ (b : Bool). unless (needs b (fault_with faults.E11 c.args.place (length (shown_slots c.args.head.now.params.items))
    (count (shown_expressions c.args.arguments.now)))) (check_all (known c.args.context.now.heads.now c.args.context.now.unit) (shown_scope c.args.scope.now) c.args.first_site
    (exactly (widths_of (shown_slots c.args.head.now.params.items))) (shown_expressions c.args.arguments.now)))
    (sym (c.are_as_many-same.ensures ∙ ap (λ (l : List code_slot.Slot). length (shown_slots l) == count (shown_expressions c.args.arguments.now)) c.deref.ensures.value) ∙ c.if-not-same.true) ∙ ap
    (λ (l : List code_slot.Slot). walk.refusal (fault_with faults.E11 c.args.place (length (shown_slots l)) (count (shown_expressions c.args.arguments.now))))
    (sym c.deref-then-not-same.ensures.value))

pub check_counted-check_all-requires : goal.check_counted-check_all-requires
check_counted-check_all-requires t c =
    let smaller : 4 * nodes_in (shown_expressions c.args.arguments.now) + 1 < 4 * nodes_in (shown_expressions c.args.arguments.now) + 2 = omega arith in
    let ok : MayCheckAll c.args.context.now.heads.now c.args.context.now.unit (shown_scope c.args.scope.now) c.args.first_site (shown_expressions c.args.arguments.now) = c.requires.able in
    let each : AllByRecursion HasWideWanted c.deref-3.result.now = walk.arguments_wide _ _ c.requires.wide (ap (map shown_wanted) c.deref-3.ensures.value ∙ c.in_ok-wanted.ensures ∙ ap
    (λ (l : List code_slot.Slot). exactly (widths_of (shown_slots l))) c.deref-2.ensures.value) in
    let marked : AreMarked (known c.args.context.now.heads.now c.args.context.now.unit) c.args.arguments.now = c.requires.marked in
    search rules

pub check_counted-returns-clause-says : goal.check_counted-returns-clause-says
check_counted-returns-clause-says t c =
    subst (λ (z : Result TypedAll Fault). SaysAll c.check_all.result z)
    (sym (ap (λ (b : Bool). unless (needs b (fault_with faults.E11 c.args.place (length (shown_slots c.args.head.now.params.items)) (count (shown_expressions c.args.arguments.now))))
    (check_all (known c.args.context.now.heads.now c.args.context.now.unit) (shown_scope c.args.scope.now) c.args.first_site (exactly (widths_of (shown_slots c.args.head.now.params.items)))
    (shown_expressions c.args.arguments.now))) (sym (c.are_as_many-same.ensures ∙ ap (λ (l : List code_slot.Slot). length (shown_slots l) == count (shown_expressions c.args.arguments.now))
    c.deref.ensures.value) ∙ c.if-not-same.false))) (subst (λ (l : List Wanted). SaysAll c.check_all.result (check_all (known c.args.context.now.heads.now c.args.context.now.unit)
    (shown_scope c.args.scope.now) c.args.first_site l (shown_expressions c.args.arguments.now))) (ap (map shown_wanted) c.deref-3.ensures.value ∙ c.in_ok-wanted.ensures ∙ ap
    (λ (l : List code_slot.Slot). exactly (widths_of (shown_slots l))) c.deref-2.ensures.value) c.check_all.ensures.says)

pub check_expression-check_choice-requires : goal.check_expression-check_choice-requires
check_expression-check_choice-requires t c =
    let smaller = ap nodes c.in-If.ensures.shown in
    let ok = subst (λ (x : Expression). MayCheckIn c.args.context.now c.args.scope.now c.args.first_site x) c.in-If.ensures.shown c.requires.able in
    let wide = c.requires.wanted in
    let marked = (c.in-If.ensures.marked _ c.requires.marked).1 in
    search rules

pub check_expression-returns-in-If-clause-says : goal.check_expression-returns-in-If-clause-says
check_expression-returns-in-If-clause-says t c = rw c.in-If.ensures.shown c.check_choice.ensures.says

pub check_expression-check_binding-requires : goal.check_expression-check_binding-requires
check_expression-check_binding-requires t c =
    let smaller = ap nodes c.in-Let.ensures.shown in
    let ok = subst (λ (x : Expression). MayCheckIn c.args.context.now c.args.scope.now c.args.first_site x) c.in-Let.ensures.shown c.requires.able in
    let wide = c.requires.wanted in
    let marked = (c.in-Let.ensures.marked _ c.requires.marked).1 in
    search rules

pub check_expression-returns-in-Let-clause-says : goal.check_expression-returns-in-Let-clause-says
check_expression-returns-in-Let-clause-says t c = rw c.in-Let.ensures.shown c.check_binding.ensures.says

pub check_expression-check_applied-requires : goal.check_expression-check_applied-requires
check_expression-check_applied-requires t c =
    let smaller = ap nodes c.in-Op.ensures.shown in
    let ok = subst (λ (x : Expression). MayCheckIn c.args.context.now c.args.scope.now c.args.first_site x) c.in-Op.ensures.shown c.requires.able in
    let wide = c.requires.wanted in
    let marked = (c.in-Op.ensures.marked _ c.requires.marked).1 in
    search rules

pub check_expression-returns-in-Op-clause-says : goal.check_expression-returns-in-Op-clause-says
check_expression-returns-in-Op-clause-says t c = rw c.in-Op.ensures.shown c.check_applied.ensures.says

pub check_expression-check_called-requires : goal.check_expression-check_called-requires
check_expression-check_called-requires t c =
    let smaller = ap nodes c.in-Call.ensures.shown in
    let ok = subst (λ (x : Expression). MayCheckIn c.args.context.now c.args.scope.now c.args.first_site x) c.in-Call.ensures.shown c.requires.able in
    let wide = c.requires.wanted in
    let marked = (c.in-Call.ensures.marked _ c.requires.marked).1 in
    search rules

pub check_expression-returns-in-Call-clause-says : goal.check_expression-returns-in-Call-clause-says
check_expression-returns-in-Call-clause-says t c = rw c.in-Call.ensures.shown c.check_called.ensures.says

pub check_expression-typed_sized-requires : goal.check_expression-typed_sized-requires
check_expression-typed_sized-requires t c =
    let r = subst IsInRange c.in-Sized.ensures.shown c.requires.able.range in
    (r.some, r.bounded)

pub check_expression-typed_variable-requires : goal.check_expression-typed_variable-requires
check_expression-typed_variable-requires t c = omega (arith, c.requires.able.room)

pub check_all-returns-in_default-clause-slots : goal.check_all-returns-in_default-clause-slots
check_all-returns-in_default-clause-slots t c = c.none_typed.ensures.slots (length (shown_scope c.args.scope.now))

pub check_all-returns-in_default-split_first-clause-slots : goal.check_all-returns-in_default-split_first-clause-slots
check_all-returns-in_default-split_first-clause-slots t c = c.none_typed-in_default-split_first.ensures.slots (length (shown_scope c.args.scope.now))

pub check_bound-returns-in_default-clause-slots : goal.check_bound-returns-in_default-clause-slots
check_bound-returns-in_default-clause-slots t c = c.none_typed.ensures.slots (length (shown_scope c.args.scope.now))

pub check_alike-returns-in_default-clause-slots : goal.check_alike-returns-in_default-clause-slots
check_alike-returns-in_default-clause-slots t c = IfOk-weaker c.none_alike.result _ _ (λ x h. h (length (shown_scope c.args.scope.now))) c.none_alike.ensures.slots

pub check_branches-returns-then-later-clause-slots : goal.check_branches-returns-then-later-clause-slots
check_branches-returns-then-later-clause-slots t c = IfOk-weaker c.make_if.result _ _
    (λ x h. h (length (shown_scope c.args.scope.now)) c.requires.slots c.in_ok-first.ensures.slots c.in_ok-second.ensures.slots) c.make_if.ensures.slots

pub check_branches-returns-clause-slots : goal.check_branches-returns-clause-slots
check_branches-returns-clause-slots t c = IfOk-weaker c.make_if-2.result _ _
    (λ x h. h (length (shown_scope c.args.scope.now)) c.requires.slots c.in_ok-first-2.ensures.slots c.in_ok-second-2.ensures.slots) c.make_if-2.ensures.slots

pub check_binding-returns-clause-slots : goal.check_binding-returns-clause-slots
check_binding-returns-clause-slots t c =
    let own : shown_slots c.deref-2.result.now ≡ slots (shown_bindings c.args.bound.now) c.in_ok-all.all.widths.items = ap (λ (l : List code_slot.Slot). shown_slots l) c.deref-2.ensures.value ∙
    c.in_ok-own.ensures ∙ ap (λ (ws : List ℕ). slots (shown_bindings c.args.bound.now) ws) c.deref.ensures.value in
    let sees = body_sees (known c.args.context.now.heads.now c.args.context.now.unit) (shown_scope c.args.scope.now) (shown_slots c.deref-2.result.now) c.args.position.first_site
    (shown_bindings c.args.bound.now) (shown_all_typed c.in_ok-all.all) c.in_ok-all.all.terms.items c.in_ok-all.ensures.says own refl in
    IfOk-weaker c.make_let.result _ _ (λ x h. subst (λ (n : ℕ). AllByRecursion (HasSlots n) c.in_ok-all.all.terms.items → HasSlots (n + length c.in_ok-all.all.terms.items)
    c.in_ok-typed.typed.term → HasSlots n x.term) c.count.ensures h c.in_ok-all.ensures.slots (subst (λ (n : ℕ). HasSlots n c.in_ok-typed.typed.term) sees c.in_ok-typed.ensures.slots))
    c.make_let.ensures.slots
