use Rattle.std.proofs.Common.{refl}
use Rattle.safl_typing.proofs.WantedByOne.{arguments_next}
use Rattle.safl_typing.proofs.wanted.wanted_arguments.Goals as goal

pub loop-param-preserved : goal.loop-param-preserved
loop-param-preserved c =
    arguments_next c.args.params.now c.loop-param.param-index c.param-item.result c.loop-param.all.items _ _
    c.loop-param-test.true c.param-item.is c.loop-param.invariant c.in_ok-push.ensures.items refl
