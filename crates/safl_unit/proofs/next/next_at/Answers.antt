use Rattle.safl_unit.proofs.Common.{Bool, ap, builds_on, not, on_in, wired_before, ◌&&◌, ◌∙◌}
use Rattle.safl_unit.proofs.next.next_at.Goals as goal

pub returns-clause-built : goal.returns-clause-built
returns-clause-built c = builds_on c.or_some.ensures.built c.and_none.ensures.built

pub returns-clause-value : goal.returns-clause-value
returns-clause-value c = λ v w e. c.in_ok-next.ensures.value v w ∙ ap (λ (x : Bool). x && not (on_in v c.args.rival)) (c.in_ok-entered.ensures.value v (wired_before c.and_none.ensures.built.grows w))
