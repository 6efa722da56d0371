use Rattle.safl_typing.proofs.Common.{shown_term-Op, slots-Op}
use Rattle.safl_typing.proofs.terms.make_operation.Goals as goal

pub returns-clause-term : goal.returns-clause-term
returns-clause-term c = shown_term-Op c.args.operator c.args.operands

pub returns-clause-slots : goal.returns-clause-slots
returns-clause-slots c n h = slots-Op n c.args.operator c.args.operands h
