use Rattle.std.proofs.Common.{◌+◌, ◌*◌}
use Rattle.safl_typing.specs.Rewriting.{nodes, nodes_in, nodes_bound}
use Rattle.safl_typing.specs.Plain.{shown_expression, shown_expressions, shown_bindings}
use Rattle.safl_typing.proofs.checking.+walk.Given as goal

abbrev pub decreases-check_expression : goal.decreases-check_expression
decreases-check_expression l = 4 * nodes (shown_expression l.e.now)

abbrev pub decreases-check_choice : goal.decreases-check_choice
decreases-check_choice l = 4 * (nodes (shown_expression l.condition.now) + (nodes (shown_expression l.both.first.now) + nodes (shown_expression l.both.second.now))) + 3

abbrev pub decreases-check_branches : goal.decreases-check_branches
decreases-check_branches l = 4 * (nodes (shown_expression l.both.first.now) + nodes (shown_expression l.both.second.now)) + 1

abbrev pub decreases-check_binding : goal.decreases-check_binding
decreases-check_binding l = 4 * (nodes_bound (shown_bindings l.bound.now) + nodes (shown_expression l.body.now)) + 3

abbrev pub decreases-check_bound : goal.decreases-check_bound
decreases-check_bound l = 4 * nodes_bound (shown_bindings l.bound.now) + 1

abbrev pub decreases-check_applied : goal.decreases-check_applied
decreases-check_applied l = 4 * nodes_in (shown_expressions l.operands.now) + 3

abbrev pub decreases-check_alike : goal.decreases-check_alike
decreases-check_alike l = 4 * nodes_in (shown_expressions l.operands.now) + 1

abbrev pub decreases-check_shift : goal.decreases-check_shift
decreases-check_shift l = 4 * nodes_in (shown_expressions l.operands.now) + 1

abbrev pub decreases-check_found : goal.decreases-check_found
decreases-check_found l = 4 * nodes_in (shown_expressions l.operands.now) + 2

abbrev pub decreases-check_all : goal.decreases-check_all
decreases-check_all l = 4 * nodes_in (shown_expressions l.expressions.now) + 1

abbrev pub decreases-check_called : goal.decreases-check_called
decreases-check_called l = 4 * nodes_in (shown_expressions l.arguments.now) + 3

abbrev pub decreases-check_counted : goal.decreases-check_counted
decreases-check_counted l = 4 * nodes_in (shown_expressions l.arguments.now) + 2
