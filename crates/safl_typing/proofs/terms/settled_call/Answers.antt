use Rattle.safl_typing.proofs.Common.{IfOk-weaker, Says, shown_wanted, subst}
use Rattle.safl_term.proofs.SlotsOfLets.{slots-Call}
use Rattle.safl_term.specs.Terms.{Term}
use Rattle.safl_term.proofs.PlainTrees.{shown_term-Call}
use Rattle.safl_typing.specs.Walk.{settle}
use Rattle.safl_typing.proofs.terms.settled_call.Goals as goal

pub returns-clause-says : goal.returns-clause-says
returns-clause-says c = subst (λ (t : Term). Says c.settled.result (settle c.args.place (shown_wanted c.args.wanted) c.args.width t))
    (shown_term-Call c.args.function c.args.site c.args.arguments) c.settled.ensures.says

pub returns-clause-slots : goal.returns-clause-slots
returns-clause-slots c = IfOk-weaker c.settled.result _ _ (λ t h n k. h n (slots-Call n c.args.function c.args.site c.args.arguments k)) c.settled.ensures.slots
