use Rattle.safl_reshape.proofs.Common.{IfOk-weaker, callee, change_of, is_site, shown_bounds, shown_labelled, shown_tree, shown_trees}
use Rattle.safl_reshape.proofs.Common.{site_plain, sites_bounds, sites_in_tree, sites_labelled, trees_of}
use Rattle.std.proofs.Common.{◌≡◌, ◌-◌, ◌+◌, suc, refl, sym, ap, ◌∙◌, arith}
use Rattle.safl_word.proofs.Options.{on_ok_always}
use Rattle.safl_typing.specs.PlainHeads.{known, site_of}
use Rattle.safl_reshape.proofs.ChangedNodes.{if_done, let_done, case_done, op_done, call_done, left_if, left_let, left_case, left_op, left_call}
use Rattle.safl_reshape.proofs.ListsLeft.{list_more, bounds_more, arms_more, list_left, bounds_left, arms_left}
use Rattle.safl_reshape.proofs.change.+changing.Goals as goal

pub change-returns-in_ok-second-in-If-clause-tree : goal.change-returns-in_ok-second-in-If-clause-tree
change-returns-in_ok-second-in-If-clause-tree t c =
    let K = known c.args.heads.now c.args.unit in
    let i = c.in-If in
    IfOk-weaker c.choose.result _ _ (λ x h k lo e.
    let v = c.in_ok-condition-in-If.ensures.tree k lo e in
    let l : c.change.new.left ≡ suc k - (lo + sites_in_tree K (shown_tree i.condition.now)) = omega (arith, e, c.in_ok-condition-in-If.ensures.left) in
    let a = c.in_ok-first-in-If.ensures.tree k _ l in
    let m : c.change-in-If.new.left ≡ suc k - (lo + sites_in_tree K (shown_tree i.condition.now) + sites_in_tree K (shown_tree i.first.now)) =
    omega (arith, l, c.in_ok-first-in-If.ensures.left) in
    if_done K (change_of k c.args.changes.now) lo i.ensures.shown v a (c.in_ok-second-in-If.ensures.tree k _ m) h) c.choose.ensures

pub change-returns-in_ok-second-in-If-clause-left : goal.change-returns-in_ok-second-in-If-clause-left
change-returns-in_ok-second-in-If-clause-left t c =
    on_ok_always c.choose.result (left_if (known c.args.heads.now c.args.unit) _ c.in-If.ensures.shown c.in_ok-condition-in-If.ensures.left
    c.in_ok-first-in-If.ensures.left c.in_ok-second-in-If.ensures.left)

pub change-returns-in_ok-body-in-Let-clause-tree : goal.change-returns-in_ok-body-in-Let-clause-tree
change-returns-in_ok-body-in-Let-clause-tree t c =
    let K = known c.args.heads.now c.args.unit in
    IfOk-weaker c.bind.result _ _ (λ x h k lo e.
    let l : c.change_binds.new.left ≡ suc k - (lo + sites_bounds K (shown_bounds c.in-Let.binds.now)) = omega (arith, e, c.in_ok-binds-in-Let.ensures.left) in
    let_done K (change_of k c.args.changes.now) lo _ c.in-Let.ensures.shown (c.in_ok-binds-in-Let.ensures.bounds k lo e)
    (c.in_ok-body-in-Let.ensures.tree k _ l) h) c.bind.ensures

pub change-returns-in_ok-body-in-Let-clause-left : goal.change-returns-in_ok-body-in-Let-clause-left
change-returns-in_ok-body-in-Let-clause-left t c =
    on_ok_always c.bind.result (left_let (known c.args.heads.now c.args.unit) _ _ c.in-Let.ensures.shown
    c.in_ok-binds-in-Let.ensures.left c.in_ok-body-in-Let.ensures.left)

pub change-returns-in_ok-other-in-Case-clause-tree : goal.change-returns-in_ok-other-in-Case-clause-tree
change-returns-in_ok-other-in-Case-clause-tree t c =
    let K = known c.args.heads.now c.args.unit in
    let i = c.in-Case in
    IfOk-weaker c.select.result _ _ (λ x h k lo e.
    let v = c.in_ok-value-in-Case.ensures.tree k lo e in
    let l : c.change-in-Case.new.left ≡ suc k - (lo + sites_in_tree K (shown_tree i.value.now)) = omega (arith, e, c.in_ok-value-in-Case.ensures.left) in
    let ls = c.in_ok-arms-in-Case.ensures.labelled k _ l in
    let m : c.change_arms.new.left ≡ suc k - (lo + sites_in_tree K (shown_tree i.value.now) + sites_labelled K (shown_labelled i.arms.now)) =
    omega (arith, l, c.in_ok-arms-in-Case.ensures.left) in
    case_done K (change_of k c.args.changes.now) lo _ _ i.ensures.shown v ls (c.in_ok-other-in-Case.ensures.tree k _ m) h) c.select.ensures

pub change-returns-in_ok-other-in-Case-clause-left : goal.change-returns-in_ok-other-in-Case-clause-left
change-returns-in_ok-other-in-Case-clause-left t c =
    on_ok_always c.select.result (left_case (known c.args.heads.now c.args.unit) _ _ _ c.in-Case.ensures.shown c.in_ok-value-in-Case.ensures.left
    c.in_ok-arms-in-Case.ensures.left c.in_ok-other-in-Case.ensures.left)

pub change-returns-in_ok-operands-in-Op-clause-tree : goal.change-returns-in_ok-operands-in-Op-clause-tree
change-returns-in_ok-operands-in-Op-clause-tree t c = λ k lo e.
    op_done (known c.args.heads.now c.args.unit) (change_of k c.args.changes.now) lo _ c.in-Op.ensures.shown
    (c.in_ok-operands-in-Op.ensures.trees k lo e) c.operate.ensures

pub change-returns-in_ok-operands-in-Op-clause-left : goal.change-returns-in_ok-operands-in-Op-clause-left
change-returns-in_ok-operands-in-Op-clause-left t c = left_op (known c.args.heads.now c.args.unit) _ _ c.in-Op.ensures.shown c.in_ok-operands-in-Op.ensures.left

pub change-returns-in_ok-arguments-in-Call-clause-tree : goal.change-returns-in_ok-arguments-in-Call-clause-tree
change-returns-in_ok-arguments-in-Call-clause-tree t c =
    let K = known c.args.heads.now c.args.unit in
    let i = c.in-Call in
    let found = c.find_callee-callee.ensures.found in
    let z : site_of c.find_callee-callee.result ≡ is_site (callee K i.name.now) =
    sym (site_plain c.args.heads.now c.find_callee-callee.result c.find_callee-callee.ensures.one) ∙ ap is_site found in
    IfOk-weaker c.changed_call.result _ _ (λ x h k lo e.
    let l : c.pass-here.new.left ≡ suc k - (lo + is_site (callee K i.name.now)) = omega (arith, e, z, c.pass-here.ensures.left) in
    let r = h c.args.heads.now k lo c.find_callee-callee.ensures.one (c.pass-here.ensures.here k lo e) in
    call_done K (change_of k c.args.changes.now) lo _ i.ensures.shown (c.in_ok-arguments-in-Call.ensures.trees k _ l)
    (r ∙ ap (λ f. change_of k c.args.changes.now f lo c.args.e.now.place i.name.now
    (trees_of (shown_trees c.in_ok-arguments-in-Call.arguments.items))) found)) c.changed_call.ensures

pub change-returns-in_ok-arguments-in-Call-clause-left : goal.change-returns-in_ok-arguments-in-Call-clause-left
change-returns-in_ok-arguments-in-Call-clause-left t c =
    let z : site_of c.find_callee-callee.result ≡ is_site (callee (known c.args.heads.now c.args.unit) c.in-Call.name.now) = sym
    (site_plain c.args.heads.now c.find_callee-callee.result c.find_callee-callee.ensures.one) ∙ ap is_site c.find_callee-callee.ensures.found in
    on_ok_always c.changed_call.result (left_call (known c.args.heads.now c.args.unit) _ _ c.in-Call.ensures.shown z
    c.pass-here.ensures.left c.in_ok-arguments-in-Call.ensures.left)

pub change_all-loop-e-preserved : goal.change_all-loop-e-preserved
change_all-loop-e-preserved t c = record {
  trees = λ k lo e.
      let v = c.loop-e.invariant.trees k lo e in
      let x = c.in_ok-next.ensures.tree k v.0 v.1 in
      let l : c.change.new.left ≡ suc k - (v.0 + sites_in_tree (known c.args.heads.now c.args.unit) (shown_tree c.e-item.result)) = omega (arith, v.1, c.in_ok-next.ensures.left) in (
        v.0 + sites_in_tree (known c.args.heads.now c.args.unit) (shown_tree c.e-item.result),
        l,
        list_more (known c.args.heads.now c.args.unit)
            (change_of k c.args.changes.now) c.args.es.now c.loop-e.e-index c.e-item.result c.loop-e.all.items c.push.new.self.items c.in_ok-next.next
            v.0 _ c.loop-e-test.true c.e-item.is c.in_ok-push.ensures.items x v.2,
      );
  left = let q = list_left (known c.args.heads.now c.args.unit) c.args.es.now c.loop-e.e-index c.e-item.result c.loop-e-test.true c.e-item.is in omega
      (arith, q, c.loop-e.invariant.left, c.in_ok-next.ensures.left);
}

pub change_arms-loop-arm-preserved : goal.change_arms-loop-arm-preserved
change_arms-loop-arm-preserved t c = record {
  labelled = λ k lo e.
      let v = c.loop-arm.invariant.labelled k lo e in
      let x = c.in_ok-label.ensures.tree k v.0 v.1 in
      let l : c.change.new.left ≡ suc k - (v.0 + sites_in_tree (known c.args.heads.now c.args.unit) (shown_tree c.arm-item.result.label)) = omega (arith, v.1, c.in_ok-label.ensures.left) in
      let y = c.in_ok-value.ensures.tree k (v.0 + sites_in_tree (known c.args.heads.now c.args.unit) (shown_tree c.arm-item.result.label)) l in
      let m : c.change-in-loop-arm.new.left ≡ suc k - (v.0 + (sites_in_tree (known c.args.heads.now c.args.unit) (shown_tree c.arm-item.result.label)
      + sites_in_tree (known c.args.heads.now c.args.unit) (shown_tree c.arm-item.result.value))) = omega (arith, l, c.in_ok-value.ensures.left) in (
        v.0 + (sites_in_tree (known c.args.heads.now c.args.unit) (shown_tree c.arm-item.result.label) + sites_in_tree
            (known c.args.heads.now c.args.unit) (shown_tree c.arm-item.result.value)),
        m,
        arms_more (known c.args.heads.now c.args.unit)
            (change_of k c.args.changes.now) c.args.arms.now c.loop-arm.arm-index c.arm-item.result c.loop-arm.all.items c.push.new.self.items _ v.0 _
            c.loop-arm-test.true c.arm-item.is c.in_ok-push.ensures.items x y v.2,
      );
  left = let q = arms_left (known c.args.heads.now c.args.unit) c.args.arms.now c.loop-arm.arm-index c.arm-item.result c.loop-arm-test.true
      c.arm-item.is in omega (arith, q, c.loop-arm.invariant.left, c.in_ok-label.ensures.left, c.in_ok-value.ensures.left);
}

pub change_binds-loop-b-preserved : goal.change_binds-loop-b-preserved
change_binds-loop-b-preserved t c = record {
  bounds = λ k lo e.
      let v = c.loop-b.invariant.bounds k lo e in
      let x = c.in_ok-value.ensures.tree k v.0 v.1 in
      let l : c.change.new.left ≡ suc k - (v.0 + sites_in_tree (known c.args.heads.now c.args.unit) (shown_tree c.b-item.result.value)) = omega (arith, v.1, c.in_ok-value.ensures.left) in (
        v.0 + sites_in_tree (known c.args.heads.now c.args.unit) (shown_tree c.b-item.result.value),
        l,
        bounds_more
            (known c.args.heads.now c.args.unit) (change_of k c.args.changes.now) c.args.binds.now c.loop-b.b-index c.b-item.result c.loop-b.all.items
            c.push.new.self.items _ v.0 _ c.loop-b-test.true c.b-item.is c.in_ok-push.ensures.items refl (c.in_ok-name.ensures.bytes ∙ c.bytes.ensures.bytes) refl x v.2,
      );
  left = let q = bounds_left (known c.args.heads.now c.args.unit) c.args.binds.now c.loop-b.b-index c.b-item.result c.loop-b-test.true c.b-item.is in
      omega (arith, q, c.loop-b.invariant.left, c.in_ok-value.ensures.left);
}
