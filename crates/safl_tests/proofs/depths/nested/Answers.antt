use Rattle.std.proofs.Common.{◌-◌}
use Rattle.safl_tests.proofs.NestedForms.{formed_not}
use Rattle.safl_tests.proofs.depths.nested.Goals as goal

pub loop-level-preserved : goal.loop-level-preserved
loop-level-preserved c = formed_not c.in_ok-operands.operands (c.args.levels - c.loop-level.level - 1) c.loop-level.e c.in_ok-operands.ensures.items c.loop-level.invariant
