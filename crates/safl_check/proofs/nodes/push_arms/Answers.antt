use Rattle.safl_check.proofs.Common.{pending, refl}
use Rattle.safl_check.proofs.StackFromTop.{arm_pushed}
use Rattle.safl_check.proofs.nodes.push_arms.Goals as goal

pub loop-i-preserved : goal.loop-i-preserved
loop-i-preserved c = arm_pushed c.args.arms.now c.loop-i.i c.index-arms-i.result c.loop-i.stack.items c.push.new.self.items
    c.push-in-loop-i.new.self.items _ _ (pending c.args.stack.now.items) c.loop-i-test.true c.loop-i.auto.i c.index-arms-i.is
    c.in_ok-push.ensures.items c.in_ok-push-2.ensures.items refl refl c.loop-i.invariant
