use Rattle.safl_tree.proofs.Common.{Expr, Node, arm_size, size, sum_by}
use Rattle.std.proofs.Common.{refl, ap, sym, ◌∙◌, arith}
use Rattle.safl_tree.specs.Shown.{shown_tree, shown_node}
use Rattle.safl_tree.proofs.Dismantling.{let_size, case_size, op_size, call_size, at_most_of}
use Rattle.safl_tree.proofs.dismantle.leave.Goals as goal

pub returns-in-If : goal.returns-in-If
returns-in-If c =
    let inner = ap (λ (e : Expr). size (shown_tree e)) c.into_inner.ensures in
    let above = ap (λ (e : Expr). size (shown_tree e)) c.unplaced.ensures in
    let none = ap (sum_by arm_size) c.new-no_arms.ensures.items in
    let whole = case_size _ 0 c.in-If.link c.new-no_arms.result c.in-If.second refl in
    let was = ap (λ (n : Node). size (shown_node n c.args.above.place)) (sym c.into_node.ensures ∙ c.in-If.is) in
    omega (arith, inner, above, none, whole, was)

pub returns-in-Let : goal.returns-in-Let
returns-in-Let c = omega (arith, let_size c.args.above.node c.args.above.place c.in-Let.binds c.in-Let.link (sym c.into_node.ensures ∙ c.in-Let.is), c.leave_let.ensures)

pub returns-in-Case : goal.returns-in-Case
returns-in-Case c = omega (arith, case_size c.args.above.node c.args.above.place c.in-Case.link c.in-Case.arms c.in-Case.default (sym c.into_node.ensures ∙ c.in-Case.is), c.leave_case.ensures)

pub returns-in-Op : goal.returns-in-Op
returns-in-Op c = at_most_of c.leave_parts.result (sym (op_size c.args.above.node c.args.above.place _ c.in-Op.es (sym c.into_node.ensures ∙ c.in-Op.is))) c.leave_parts.ensures

pub returns : goal.returns
returns c = at_most_of c.leave_parts-in-Call.result (sym (call_size c.args.above.node c.args.above.place _ c.in-Call.es (sym c.into_node.ensures ∙ c.in-Call.is))) c.leave_parts-in-Call.ensures
