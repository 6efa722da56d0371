use Rattle.std.proofs.lemmas.Result.{IfOk-weaker}
use Rattle.safl_term.proofs.SlotsOfLets.{slots-Var}
use Rattle.safl_typing.proofs.typed.typed_variable.Goals as goal

pub returns-in-Some-clause-slots : goal.returns-in-Some-clause-slots
returns-in-Some-clause-slots c = IfOk-weaker c.settled.result _ _ (λ t h n. h n (slots-Var n c.in-Some.found.slot)) c.settled.ensures.slots
