use Rattle.safl_tree.proofs.Common.{Expr, ap, arith, arm_size, refl, shown_tree, size, sum_last}
use Rattle.safl_tree.proofs.Dismantling.{case_size}
use Rattle.safl_tree.proofs.dismantle.leave_case.Goals as goal

pub returns-in-Some : goal.returns-in-Some
returns-in-Some c =
    let above = ap (λ (e : Expr). size (shown_tree e)) c.unplaced.ensures in
    let whole = case_size _ 0 c.args.link c.next_of-here.new.arms c.args.default refl in
    omega (arith, above, whole, c.next_of-here.ensures, sum_last arm_size _ _ c.in-Some.arm c.in-Some.ensures.items)
