use Rattle.safl_typing.proofs.Common.{IfOk-weaker, Says, shown_term-Op, shown_wanted, slots-Op, subst}
use Rattle.safl_term.specs.Terms.{Term}
use Rattle.safl_typing.specs.Walk.{settle}
use Rattle.safl_typing.proofs.terms.settled_operation.Goals as goal

pub returns-clause-says : goal.returns-clause-says
returns-clause-says c = subst (λ (t : Term). Says c.settled.result (settle c.args.place (shown_wanted c.args.wanted) c.args.width t))
    (shown_term-Op c.args.operator c.args.operands) c.settled.ensures.says

pub returns-clause-slots : goal.returns-clause-slots
returns-clause-slots c = IfOk-weaker c.settled.result _ _ (λ t h n k. h n (slots-Op n c.args.operator c.args.operands k)) c.settled.ensures.slots
