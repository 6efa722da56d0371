use Rattle.safl_term.proofs.Common.{arith, work_down}
use Rattle.safl_word.specs.declared.primitive.Primitive.TheVariants as prims
use Rattle.safl_term.proofs.Dismantling.{op_weight}
use Rattle.safl_term.proofs.dismantle.enter_parts.Goals as goal

pub returns : goal.returns
returns c =
    let whole = op_weight prims.Not c.replace_first-here.new.parts in
    work_down _ _ _ _ (omega (arith, c.replace_first-here.ensures.sum, whole)) (omega (arith, c.replace_first-here.ensures.least))
