use Rattle.std.proofs.Common.{[], ◌∷◌, ◌++◌, ap, ◌∙◌}
use Rattle.safl_unit.proofs.bodies.no_outcomes.Goals as goal

pub returns-clause-wants : goal.returns-clause-wants
returns-clause-wants c = (c.in_ok-call.call, c.in_ok-push.ensures.items ∙ ap (λ l. l ++ c.in_ok-call.call ∷ []) c.new-wants.ensures.items, c.in_ok-call.ensures.bit, c.in_ok-call.ensures.operands)
