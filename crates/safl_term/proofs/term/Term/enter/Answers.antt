use Rattle.safl_term.proofs.Common.{ap, code_weight, sym, ◌∙◌}
use Rattle.safl_word.proofs.Naturals.{work_less_of}
use Rattle.safl_term.proofs.Dismantling.{let_weight, op_weight, call_weight, loop_weight, less_in}
use Rattle.safl_term.proofs.term.Term.enter.Goals as goal

pub returns-in-Let : goal.returns-in-Let
returns-in-Let c = work_less_of _ _ (sym (ap code_weight c.in-Let.is ∙ let_weight c.in-Let.field-0 c.in-Let.bound c.in-Let.body)) c.enter_let.ensures

pub returns-in-Op : goal.returns-in-Op
returns-in-Op c = less_in c.enter_parts.result _ (sym (ap code_weight c.in-Op.is ∙ op_weight c.in-Op.field-0 c.in-Op.parts)) c.enter_parts.ensures

pub returns-in-Call : goal.returns-in-Call
returns-in-Call c = less_in c.enter_parts-in-Call.result _ (sym (ap code_weight c.in-Call.is ∙ call_weight c.in-Call.field-0 c.in-Call.field-1 c.in-Call.parts)) c.enter_parts-in-Call.ensures

pub returns-in-Loop : goal.returns-in-Loop
returns-in-Loop c = less_in c.enter_parts-in-Loop.result _ (sym (ap code_weight c.in-Loop.is ∙ loop_weight c.in-Loop.field-0 c.in-Loop.parts)) c.enter_parts-in-Loop.ensures
