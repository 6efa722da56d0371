use Rattle.safl_tool.proofs.Common.{WalksFrom, subst, ℕ}
use Rattle.safl_tool.proofs.Walked.{walks_from}
use Rattle.safl_tool.proofs.walk.walk_with.Goals as goal

pub returns-in-Ok : goal.returns-in-Ok
returns-in-Ok c =
    subst (λ (n : ℕ). WalksFrom c.args.checked.now.program c.args.words.now c.args.seed n c.walk.result) c.from.ensures
    (walks_from c.args.checked.now c.args.words.now c.in-Ok.machine c.walk.new.machine c.args.seed c.from.result c.walk.result
    c.in-Ok.ensures.opens c.walk.ensures.walk c.walk.ensures.events c.walk.ensures.result c.walk.ensures.value c.walk.ensures.short)
