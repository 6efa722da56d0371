use Rattle.safl_unit.proofs.Common.{None, next_kind, refl}
use Rattle.safl_net.specs.Netlist.{Reg}
use Rattle.safl_unit.proofs.equations.Tables.{pin_get}
use Rattle.safl_unit.proofs.assembly.Setting.{takes_next, kinds_next}
use Rattle.safl_unit.proofs.finish.set_nexts.Goals as goal

pub set_next-requires : goal.set_next-requires
set_next-requires c =
    takes_next c.args.net.now c.loop-i.net c.args.first c.loop-i.i next_kind c.args.all.now _ (pin_get c.args.all.now c.loop-i.i c.loop-i-test.true) c.loop-i-test.true c.loop-i.invariant
    _ (Reg 0 None) refl c.requires.open

pub loop-i-preserved : goal.loop-i-preserved
loop-i-preserved c =
    kinds_next c.args.net.now c.loop-i.net c.args.first c.loop-i.i next_kind c.args.all.now _ (pin_get c.args.all.now c.loop-i.i c.loop-i-test.true) c.loop-i-test.true c.loop-i.invariant
    _ c.set_next.new.net refl c.set_next.ensures
