use Rattle.std.proofs.Common.{arith}
use Rattle.safl_sim.proofs.Builds.{resets_more}
use Rattle.safl_sim.proofs.parts.resets.Goals as goal

pub signals-preserved : goal.signals-preserved
signals-preserved c =
    resets_more c.args.net.now c.signals.numbers.items c.push.new.self.items c.signals.i c.reset.result
    (let a = c.signals-test.true in let b = c.signals-count.ensures.count in omega (arith, a, b))
    c.signals.invariant c.reset.ensures c.in_ok-push.ensures.items
