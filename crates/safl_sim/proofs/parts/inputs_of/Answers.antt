use Rattle.std.proofs.Common.{arith}
use Rattle.safl_net.specs.Making.{numbers}
use Rattle.safl_sim.proofs.Builds.{inputs_more}
use Rattle.safl_sim.proofs.parts.inputs_of.Goals as goal

pub signals-preserved : goal.signals-preserved
signals-preserved c =
    inputs_more c.args.net.now (numbers c.signals.inputs.items) (numbers c.push_input.new.inputs.items) c.signals.i
    (let a = c.signals-test.true in let b = c.signals-i-end.ensures.count in omega (arith, a, b))
    c.signals.invariant c.in_ok-push_input.ensures
