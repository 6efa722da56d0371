use Rattle.safl_reshape.proofs.Common.{Arm, Bind, Expr, drop_all, is_site, known, nodes_bounds, nodes_labelled, nodes_list, shown_bounds}
use Rattle.safl_reshape.proofs.Common.{shown_labelled, shown_trees, site_plain, sites_bounds, sites_labelled, sites_list}
use Rattle.std.proofs.Common.{◌≡◌, List, [], drop, ap, sym, ◌∙◌, subst, arith}
use Rattle.safl_reshape.proofs.Counted.{Left, if_adds, let_adds, case_adds, op_adds, call_adds, adds_more, left_less, all_left, none_left, list_nodes_left, bounds_nodes_left, arms_nodes_left}
use Rattle.safl_reshape.proofs.ListsLeft.{list_left, bounds_left, arms_left}
use Rattle.safl_reshape.proofs.counts.+counting.Goals as goal

pub count-returns-in-If : goal.count-returns-in-If
count-returns-in-If t c =
    if_adds (known c.args.heads.now c.args.unit) c.plus-itself.ensures c.in-If.ensures.shown
    c.count-upto_condition.ensures c.count-upto_first.ensures c.count.ensures

pub count-returns-in-Let : goal.count-returns-in-Let
count-returns-in-Let t c =
    let_adds (known c.args.heads.now c.args.unit) c.plus-itself.ensures _ c.in-Let.ensures.shown
    c.count_binds-upto_binds.ensures c.count-in-Let.ensures

pub count-returns-in-Case : goal.count-returns-in-Case
count-returns-in-Case t c =
    case_adds (known c.args.heads.now c.args.unit) c.plus-itself.ensures _ _ c.in-Case.ensures.shown
    c.count-upto_value.ensures c.count_arms-upto_arms.ensures c.count-in-Case.ensures

pub count-returns-in-Op : goal.count-returns-in-Op
count-returns-in-Op t c = op_adds (known c.args.heads.now c.args.unit) c.plus-itself.ensures _ c.in-Op.ensures.shown c.count_all.ensures

pub count-returns-in-Call : goal.count-returns-in-Call
count-returns-in-Call t c =
    let z = site_plain c.args.heads.now c.find_callee.result c.find_callee.ensures.one in
    call_adds (known c.args.heads.now c.args.unit) c.plus-itself.ensures _ c.in-Call.ensures.shown (c.sites_of_callee-sites.ensures ∙ (sym z ∙ ap is_site c.find_callee.ensures.found))
    c.plus-called.ensures c.count_all-in-Call.ensures

pub count_all-loop-e-preserved : goal.count_all-loop-e-preserved
count_all-loop-e-preserved t c =
    left_less _ _ _ _ _ _ _ _ _ _ _ c.loop-e.invariant c.count-counts.ensures
    (list_left (known c.args.heads.now c.args.unit) c.args.es.now c.loop-e.e-index c.e-item.result c.loop-e-test.true c.e-item.is)
    (list_nodes_left c.args.es.now c.loop-e.e-index c.e-item.result c.loop-e-test.true c.e-item.is)

pub count_binds-loop-b-preserved : goal.count_binds-loop-b-preserved
count_binds-loop-b-preserved t c =
    left_less _ _ _ _ _ _ _ _ _ _ _ c.loop-b.invariant c.count-counts.ensures
    (bounds_left (known c.args.heads.now c.args.unit) c.args.binds.now c.loop-b.b-index c.b-item.result c.loop-b-test.true c.b-item.is)
    (bounds_nodes_left c.args.binds.now c.loop-b.b-index c.b-item.result c.loop-b-test.true c.b-item.is)

pub count_arms-loop-arm-preserved : goal.count_arms-loop-arm-preserved
count_arms-loop-arm-preserved t c =
    left_less _ _ _ _ _ _ _ _ _ _ _ c.loop-arm.invariant (adds_more _ _ _ _ _ _ _ c.plus-itself.ensures (adds_more _ _ _ _ _ _ _ c.count-upto_label.ensures c.count-counts.ensures))
    (omega (
      arith,
      arms_left (known c.args.heads.now c.args.unit) c.args.arms.now c.loop-arm.arm-index c.arm-item.result c.loop-arm-test.true
          c.arm-item.is,
    )) (arms_nodes_left c.args.arms.now c.loop-arm.arm-index c.arm-item.result c.loop-arm-test.true c.arm-item.is)

pub count_all-loop-e-init : goal.count_all-loop-e-init
count_all-loop-e-init t c = all_left _ _ _

pub count_all-returns : goal.count_all-returns
count_all-returns t c =
    let none : drop c.loop-e.e-index c.args.es.now ≡ [] = drop_all c.loop-e.e-index c.args.es.now c.loop-e-test.false in
    none_left _ _ _ _
    (subst (λ (l : List Expr). Left c.args.before c.loop-e.counts (sites_list (known c.args.heads.now c.args.unit) (shown_trees l))
    (nodes_list (shown_trees l)) (sites_list (known c.args.heads.now c.args.unit) (shown_trees c.args.es.now))
    (nodes_list (shown_trees c.args.es.now))) none c.loop-e.invariant)

pub count_binds-loop-b-init : goal.count_binds-loop-b-init
count_binds-loop-b-init t c = all_left _ _ _

pub count_binds-returns : goal.count_binds-returns
count_binds-returns t c =
    let none : drop c.loop-b.b-index c.args.binds.now ≡ [] = drop_all c.loop-b.b-index c.args.binds.now c.loop-b-test.false in
    none_left _ _ _ _
    (subst (λ (l : List Bind). Left c.args.before c.loop-b.counts (sites_bounds (known c.args.heads.now c.args.unit) (shown_bounds l))
    (nodes_bounds (shown_bounds l)) (sites_bounds (known c.args.heads.now c.args.unit) (shown_bounds c.args.binds.now))
    (nodes_bounds (shown_bounds c.args.binds.now))) none c.loop-b.invariant)

pub count_arms-loop-arm-init : goal.count_arms-loop-arm-init
count_arms-loop-arm-init t c = all_left _ _ _

pub count_arms-returns : goal.count_arms-returns
count_arms-returns t c =
    let none : drop c.loop-arm.arm-index c.args.arms.now ≡ [] = drop_all c.loop-arm.arm-index c.args.arms.now c.loop-arm-test.false in
    none_left _ _ _ _
    (subst (λ (l : List Arm). Left c.args.before c.loop-arm.counts (sites_labelled (known c.args.heads.now c.args.unit) (shown_labelled l))
    (nodes_labelled (shown_labelled l)) (sites_labelled (known c.args.heads.now c.args.unit) (shown_labelled c.args.arms.now))
    (nodes_labelled (shown_labelled c.args.arms.now))) none c.loop-arm.invariant)
