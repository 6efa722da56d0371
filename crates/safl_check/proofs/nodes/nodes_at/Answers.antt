use Rattle.std.proofs.Common.{arith}
use Rattle.safl_check.proofs.StackFromTop.{case_nodes}
use Rattle.safl_check.proofs.nodes.nodes_at.Goals as goal

pub returns-in-Case : goal.returns-in-Case
returns-in-Case c = case_nodes c.args.e.now.node c.args.e.now.place c.in-Case.field-0 c.in-Case.arms c.in-Case.field-2 c.len.result
    c.nodes_of_case.result c.in-Case.is (omega (arith, c.len.ensures)) c.nodes_of_case.ensures
