use Rattle.safl_check.proofs.HeadsAndBodies.{heads_next}
use Rattle.safl_check.proofs.heads.make_heads.Goals as goal

pub loop-number-preserved : goal.loop-number-preserved
loop-number-preserved c =
    heads_next c.args.defs.now c.loop-number.number c.loop-number.unit c.next_unit-unit.result c.index-defs-number.result c.loop-number.all.items
    c.push.new.self.items c.in_ok-head.head c.loop-number-test.true c.index-defs-number.is c.in_ok-push.ensures.items c.next_unit-unit.ensures
    c.in_ok-head.ensures c.loop-number.invariant
