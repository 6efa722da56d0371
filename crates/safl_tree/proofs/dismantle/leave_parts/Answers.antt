use Rattle.safl_tree.proofs.Common.{Expr, ap, arith, refl, shown_tree, size, sum_last}
use Rattle.safl_tree.proofs.Dismantling.{op_size}
use Rattle.safl_word.specs.declared.primitive.Primitive.TheVariants as prims
use Rattle.safl_tree.proofs.dismantle.leave_parts.Goals as goal

pub returns-else-is_empty : goal.returns-else-is_empty
returns-else-is_empty c =
    let above = ap (λ (e : Expr). size (shown_tree e)) c.unplaced.ensures in
    let whole = op_size _ 0 prims.Not c.pop.new.self refl in
    omega (arith, above, whole, sum_last (λ (e : Expr). size (shown_tree e)) _ _ c.in-Some.e c.in-Some.ensures.items)
