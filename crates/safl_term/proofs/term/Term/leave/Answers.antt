use Rattle.safl_term.proofs.Common.{ap, arith, code_weight, sym, ◌∙◌}
use Rattle.safl_term.proofs.Dismantling.{let_weight, op_weight, call_weight, loop_weight, at_most_of}
use Rattle.safl_term.proofs.term.Term.leave.Goals as goal

pub returns-in-Let : goal.returns-in-Let
returns-in-Let c = omega (arith, ap code_weight c.in-Let.is, let_weight c.in-Let.field-0 c.in-Let.bound c.in-Let.link, c.leave_let.ensures)

pub returns-in-Op : goal.returns-in-Op
returns-in-Op c = at_most_of c.leave_parts.result (sym (ap code_weight c.in-Op.is ∙ op_weight c.in-Op.field-0 c.in-Op.parts)) c.leave_parts.ensures

pub returns-in-Call : goal.returns-in-Call
returns-in-Call c = at_most_of c.leave_parts-in-Call.result (sym (ap code_weight c.in-Call.is ∙ call_weight c.in-Call.field-0 c.in-Call.field-1 c.in-Call.parts)) c.leave_parts-in-Call.ensures

pub returns-in-Loop : goal.returns-in-Loop
returns-in-Loop c = at_most_of c.leave_parts-in-Loop.result (sym (ap code_weight c.in-Loop.is ∙ loop_weight c.in-Loop.field-0 c.in-Loop.parts)) c.leave_parts-in-Loop.ensures
