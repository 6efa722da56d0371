use Rattle.safl_term.proofs.Common.{ap, arith, code_weight, work_down}
use Rattle.safl_term.proofs.Dismantling.{let_weight}
use Rattle.safl_term.proofs.dismantle.enter_let.Goals as goal

pub returns : goal.returns
returns c =
    let here = ap code_weight c.replace-here.ensures.value in
    let kept = ap code_weight c.replace-here.ensures.after in
    let whole = let_weight 0 c.args.bound c.replace-here.new.b in
    work_down _ _ _ _ (omega (arith, here, kept, whole)) (omega (arith, here))
