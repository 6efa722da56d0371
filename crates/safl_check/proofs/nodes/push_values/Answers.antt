use Rattle.safl_check.proofs.Common.{Bind, pending, refl, shown_tree}
use Rattle.safl_check.proofs.StackFromTop.{pushed}
use Rattle.safl_check.proofs.nodes.push_values.Goals as goal

pub loop-i-preserved : goal.loop-i-preserved
loop-i-preserved c = pushed (λ (b : Bind). shown_tree b.value) c.args.binds.now c.loop-i.i c.index-binds-i.result c.loop-i.stack.items
    c.push.new.self.items _ (pending c.args.stack.now.items) c.loop-i-test.true c.loop-i.auto.i c.index-binds-i.is c.in_ok-push.ensures.items refl c.loop-i.invariant
