use Rattle.safl_term.proofs.Common.{arith, code_weight, sum_last}
use Rattle.safl_term.proofs.Dismantling.{let_weight}
use Rattle.safl_term.proofs.dismantle.leave_let.Goals as goal

pub returns-in-Some : goal.returns-in-Some
returns-in-Some c =
    let whole = let_weight 0 c.pop.new.self c.args.link in
    omega (arith, whole, sum_last code_weight _ _ c.in-Some.here c.in-Some.ensures.items)
