use Rattle.safl_check.proofs.StackFromTop.{if_pushed, let_pushed, case_pushed, op_pushed, call_pushed}
use Rattle.safl_check.proofs.nodes.push_parts.Goals as goal

pub returns-in_ok-push-in-If-3 : goal.returns-in_ok-push-in-If-3
returns-in_ok-push-in-If-3 c = if_pushed c.args.e.now.node c.args.e.now.place c.in-If.condition c.in-If.first c.in-If.second c.args.stack.now.items _ _ c.push-in-If-2.new.self.items _ _ _ c.in-If.is
    c.in_ok-push-in-If.ensures.items c.in_ok-push-in-If-2.ensures.items c.in_ok-push-in-If-3.ensures.items c.deref.ensures c.deref-in-If.ensures c.deref-in-If-2.ensures

pub returns-in_ok-push-in-Let : goal.returns-in_ok-push-in-Let
returns-in_ok-push-in-Let c = let_pushed c.push_values.result c.args.e.now.node c.args.e.now.place c.in-Let.binds c.in-Let.body _ c.args.stack.now.items _ c.push_values.new.stack.items _ c.in-Let.is
    c.in_ok-push-in-Let.ensures.items c.deref-in-Let.ensures c.deref-in-Let-2.ensures.value c.push_values.ensures

pub returns-in_ok-push-in-Case-2 : goal.returns-in_ok-push-in-Case-2
returns-in_ok-push-in-Case-2 c = case_pushed c.args.e.now.node c.args.e.now.place c.in-Case.scrutinee c.in-Case.arms c.in-Case.default _
    c.args.stack.now.items _ _ c.push-in-Case-2.new.self.items _ _ c.in-Case.is
    c.in_ok-push-in-Case.ensures.items c.deref-in-Case.ensures c.deref-in-Case-2.ensures.value c.in_ok-push_arms-in-Case.ensures c.in_ok-push-in-Case-2.ensures.items c.deref-in-Case-3.ensures

pub returns-in-Op : goal.returns-in-Op
returns-in-Op c = op_pushed c.push_all.result c.args.e.now.node c.args.e.now.place c.in-Op.field-0 c.in-Op.operands _ c.args.stack.now.items
    c.push_all.new.stack.items c.in-Op.is c.deref-in-Op.ensures.value c.push_all.ensures

pub returns-in-Call : goal.returns-in-Call
returns-in-Call c = call_pushed c.push_all-in-Call.result c.args.e.now.node c.args.e.now.place c.in-Call.field-0 c.in-Call.arguments _
    c.args.stack.now.items c.push_all-in-Call.new.stack.items c.in-Call.is c.deref-in-Call.ensures.value c.push_all-in-Call.ensures
