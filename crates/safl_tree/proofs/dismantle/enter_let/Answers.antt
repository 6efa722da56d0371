use Rattle.safl_tree.proofs.Common.{Expr, ap, arith, refl, shown_tree, size, work_down}
use Rattle.safl_tree.proofs.Dismantling.{let_size}
use Rattle.safl_tree.proofs.dismantle.enter_let.Goals as goal

pub returns : goal.returns
returns c =
    let here = ap (λ (e : Expr). size (shown_tree e)) c.replace-here.ensures.value in
    let kept = ap (λ (e : Expr). size (shown_tree e)) c.replace-here.ensures.after in
    let above = ap (λ (e : Expr). size (shown_tree e)) c.unplaced.ensures in
    let whole = let_size _ 0 c.args.binds c.replace-here.new.b refl in
    work_down _ _ _ _ (omega (arith, here, kept, above, whole)) (omega (arith, here))
