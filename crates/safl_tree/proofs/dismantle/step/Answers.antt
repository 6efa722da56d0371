use Rattle.std.proofs.Common.{sym, ◌∙◌}
use Rattle.safl_word.proofs.Naturals.{work_less_of}
use Rattle.safl_tree.proofs.Dismantling.{let_size, case_size, op_size, call_size, less_in}
use Rattle.safl_tree.proofs.dismantle.step.Goals as goal

pub returns-in-Let : goal.returns-in-Let
returns-in-Let c = work_less_of _ _ (sym (let_size c.args.at.here.node c.args.at.here.place c.in-Let.binds c.in-Let.body (sym c.into_node.ensures ∙ c.in-Let.is))) c.enter_let.ensures

pub returns-in-Case : goal.returns-in-Case
returns-in-Case c = work_less_of _ _ (sym (case_size c.args.at.here.node c.args.at.here.place c.in-Case.scrutinee c.in-Case.arms c.in-Case.default
    (sym c.into_node.ensures ∙ c.in-Case.is))) c.enter_case.ensures

pub returns-in-Op : goal.returns-in-Op
returns-in-Op c = less_in c.enter_parts.result _ (sym (op_size c.args.at.here.node c.args.at.here.place _ c.in-Op.operands (sym c.into_node.ensures ∙ c.in-Op.is))) c.enter_parts.ensures

pub returns : goal.returns
returns c = less_in c.enter_parts-in-Call.result _ (sym (call_size c.args.at.here.node c.args.at.here.place _ c.in-Call.arguments
    (sym c.into_node.ensures ∙ c.in-Call.is))) c.enter_parts-in-Call.ensures
