use Rattle.std.proofs.Common.{◌+◌, ◌*◌, ◌++◌, ◌∷◌, [], ◌∙◌, sym}
use Rattle.safl_aig.proofs.Sources.{variable_push}
use Rattle.safl_aig.proofs.table.variables.Goals as goal

pub loop-i-preserved : goal.loop-i-preserved
loop-i-preserved c =
    c.in_ok-push.ensures.items ∙ (λ k. c.loop-i.invariant k ++ record { 0 = 2 * (c.args.first + c.from.ensures k) } ∷ []) ∙ sym (variable_push c.args.first c.loop-i.i)
