use Rattle.safl_tree.proofs.Common.{Expr, ap, arith, refl, shown_tree, size, work_down}
use Rattle.safl_tree.proofs.Dismantling.{op_size}
use Rattle.safl_word.specs.declared.primitive.Primitive.TheVariants as prims
use Rattle.safl_tree.proofs.dismantle.enter_parts.Goals as goal

pub returns : goal.returns
returns c =
    let above = ap (λ (e : Expr). size (shown_tree e)) c.unplaced.ensures in
    let whole = op_size _ 0 prims.Not c.replace_first-here.new.es refl in
    work_down _ _ _ _ (omega (arith, c.replace_first-here.ensures.sum, above, whole)) (omega (arith, c.replace_first-here.ensures.least))
