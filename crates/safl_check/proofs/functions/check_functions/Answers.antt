use Rattle.safl_check.proofs.Common.{All, BodyHasSlots, err_from_is_err_and, known, length-map, shown_definition, shown_definitions}
use Rattle.std.proofs.Common.{sym, ◌∙◌, subst, arith}
use Rattle.std.proofs.lemmas.List.Elements.{All-nil, All-push}
use Rattle.std.proofs.lemmas.Option.{get_or_from_slice_get}
use Rattle.safl_check.proofs.Remaining.{are_known, as_many_heads}
use Rattle.safl_check.proofs.Walked as walk
use Rattle.safl_check.proofs.functions.check_functions.Goals as goal

pub loop-number-init : goal.loop-number-init
loop-number-init c = record {
  walked = subst (λ l. walk.IsWalked (shown_definitions c.args.defs.now) c.args.all_heads.now l 0 1) (sym c.new-functions.ensures.items)
      (walk.walk_begins (shown_definitions c.args.defs.now) c.args.all_heads.now c.requires.formed c.requires.heads c.requires.within);
  slots = subst (All BodyHasSlots) (sym c.new-functions.ensures.items) (All-nil BodyHasSlots);
}

pub returns-in-Some-clause-says : goal.returns-in-Some-clause-says
returns-in-Some-clause-says c =
    walk.group_refused (shown_definitions c.args.defs.now) c.args.all_heads.now c.loop-number.functions.items c.loop-number.number
    c.loop-number.first_site c.in-Some.fault c.loop-number.invariant.walked (sym c.find_group_fault.ensures ∙ c.in-Some.is)

pub get-head-requires : goal.get-head-requires
get-head-requires c = omega (arith, c.loop-number-test.true, as_many_heads (shown_definitions c.args.defs.now) c.args.all_heads.now c.requires.heads, length-map c.args.defs.now shown_definition)

pub check_function-requires-clause-formed : goal.check_function-requires-clause-formed
check_function-requires-clause-formed c =
    let t = walk.is_there c.args.defs.now c.args.all_heads.now c.loop-number.number c.index-defs-number.result c.get-head.result.now c.requires.heads
    c.loop-number-test.true c.index-defs-number.is (sym (get_or_from_slice_get c.args.all_heads.now c.loop-number.number c.get-head.result.now
    c.get-head.result.now c.get-head.ensures)) in
    walk.formed_here _ _ _ _ _ _ _ c.in_ok-body.body c.loop-number.invariant.walked t c.in_ok-body.ensures.rewritten

pub check_function-requires-clause-able : goal.check_function-requires-clause-able
check_function-requires-clause-able c =
    let k = are_known (shown_definitions c.args.defs.now) c.args.all_heads.now c.requires.formed c.requires.heads c.requires.within in
    let t = walk.is_there c.args.defs.now c.args.all_heads.now c.loop-number.number c.index-defs-number.result c.get-head.result.now c.requires.heads
    c.loop-number-test.true c.index-defs-number.is (sym (get_or_from_slice_get c.args.all_heads.now c.loop-number.number c.get-head.result.now
    c.get-head.result.now c.get-head.ensures)) in
    walk.may_check_here _ _ _ _ _ _ _ c.in_ok-body.body c.loop-number.invariant.walked t c.in_ok-body.ensures.rewritten c.args.all_heads.now k

pub returns-in_err-function-clause-says : goal.returns-in_err-function-clause-says
returns-in_err-function-clause-says c =
    let k = are_known (shown_definitions c.args.defs.now) c.args.all_heads.now c.requires.formed c.requires.heads c.requires.within in
    let t = walk.is_there c.args.defs.now c.args.all_heads.now c.loop-number.number c.index-defs-number.result c.get-head.result.now c.requires.heads
    c.loop-number-test.true c.index-defs-number.is (sym (get_or_from_slice_get c.args.all_heads.now c.loop-number.number c.get-head.result.now
    c.get-head.result.now c.get-head.ensures)) in
    let p = err_from_is_err_and c.from_residual-in_err-function.result c.from_residual-in_err-function.ensures.1 in
    rw (p.1, p.2) (walk.function_refused _ _ _ _ _ _ _ c.in_ok-body.body c.loop-number.invariant.walked t c.in_ok-body.ensures.rewritten
    c.args.all_heads.now k c.in_err-function.field-0.0 (sym c.find_group_fault.ensures ∙ c.in_default.is) c.in_err-function.ensures.says)

pub loop-number-preserved : goal.loop-number-preserved
loop-number-preserved c =
    let k = are_known (shown_definitions c.args.defs.now) c.args.all_heads.now c.requires.formed c.requires.heads c.requires.within in
    let t = walk.is_there c.args.defs.now c.args.all_heads.now c.loop-number.number c.index-defs-number.result c.get-head.result.now c.requires.heads
    c.loop-number-test.true c.index-defs-number.is (sym (get_or_from_slice_get c.args.all_heads.now c.loop-number.number c.get-head.result.now
    c.get-head.result.now c.get-head.ensures)) in
    record {
      walked = walk.walk_goes_on _ _ _ _ _ _ _ c.in_ok-body.body c.loop-number.invariant.walked t c.in_ok-body.ensures.rewritten c.args.all_heads.now
          c.args.all_heads.now k k c.in_ok-function.function _ c.add_sites-first_site.result (sym c.find_group_fault.ensures ∙ c.in_default.is)
          c.in_ok-function.ensures.says c.in_ok-push.ensures.items
          (c.add_sites-first_site.ensures (known c.args.all_heads.now c.get-head.result.now.unit) c.in_ok-body.ensures.marked);
      slots = subst (All BodyHasSlots) (sym c.in_ok-push.ensures.items)
          (All-push BodyHasSlots c.loop-number.functions.items c.in_ok-function.function c.loop-number.invariant.slots c.in_ok-function.ensures.slots);
    }

pub returns : goal.returns
returns c = record {
  says = walk.walk_ends (shown_definitions c.args.defs.now) c.args.all_heads.now c.loop-number.functions.items c.loop-number.number
      c.loop-number.first_site c.loop-number.invariant.walked (omega (arith, c.loop-number-test.false, length-map c.args.defs.now shown_definition));
  slots = c.loop-number.invariant.slots;
}

pub check_function-requires-clause-params : goal.check_function-requires-clause-params
check_function-requires-clause-params c =
    let t = walk.is_there c.args.defs.now c.args.all_heads.now c.loop-number.number c.index-defs-number.result c.get-head.result.now c.requires.heads
    c.loop-number-test.true c.index-defs-number.is (sym (get_or_from_slice_get c.args.all_heads.now c.loop-number.number c.get-head.result.now
    c.get-head.result.now c.get-head.ensures)) in
    walk.params_here _ _ _ _ _ _ _ c.in_ok-body.body c.loop-number.invariant.walked t c.in_ok-body.ensures.rewritten
