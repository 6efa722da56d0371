use Rattle.safl_check.proofs.Common.{pending, refl, shown_tree}
use Rattle.safl_check.proofs.StackFromTop.{pushed}
use Rattle.safl_check.proofs.nodes.push_all.Goals as goal

pub loop-i-preserved : goal.loop-i-preserved
loop-i-preserved c = pushed shown_tree c.args.es.now c.loop-i.i c.index-es-i.result c.loop-i.stack.items c.push.new.self.items _
    (pending c.args.stack.now.items) c.loop-i-test.true c.loop-i.auto.i c.index-es-i.is c.in_ok-push.ensures.items refl c.loop-i.invariant
