use Rattle.safl_term.proofs.Common.{arith, code_weight, sum_last}
use Rattle.safl_word.specs.declared.primitive.Primitive.TheVariants as prims
use Rattle.safl_term.proofs.Dismantling.{op_weight}
use Rattle.safl_term.proofs.dismantle.leave_parts.Goals as goal

pub returns-else-is_empty : goal.returns-else-is_empty
returns-else-is_empty c =
    let whole = op_weight prims.Not c.pop.new.self in
    omega (arith, whole, sum_last code_weight _ _ c.in-Some.part c.in-Some.ensures.items)
