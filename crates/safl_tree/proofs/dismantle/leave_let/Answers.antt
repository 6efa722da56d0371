use Rattle.safl_tree.proofs.Common.{Expr, ap, arith, refl, shown_tree, sum_last}
use Rattle.safl_tree.specs.Sizes.{size, bind_size}
use Rattle.safl_tree.proofs.Dismantling.{let_size}
use Rattle.safl_tree.proofs.dismantle.leave_let.Goals as goal

pub returns-in-Some : goal.returns-in-Some
returns-in-Some c =
    let above = ap (λ (e : Expr). size (shown_tree e)) c.unplaced.ensures in
    let whole = let_size _ 0 c.pop.new.self c.args.link refl in
    omega (arith, above, whole, sum_last bind_size _ _ c.in-Some.bind c.in-Some.ensures.items)
