use Rattle.safl_unit.proofs.Common.{None, copy_kind, refl}
use Rattle.safl_net.specs.Netlist.{Wire}
use Rattle.safl_unit.proofs.equations.Tables.{pin_get}
use Rattle.safl_unit.proofs.assembly.Setting.{takes_next, kinds_next}
use Rattle.safl_unit.proofs.finish.set_copies.Goals as goal

pub set_copy-requires : goal.set_copy-requires
set_copy-requires c =
    takes_next c.args.net.now c.loop-i.net c.args.first c.loop-i.i copy_kind c.args.all.now _ (pin_get c.args.all.now c.loop-i.i c.loop-i-test.true) c.loop-i-test.true c.loop-i.invariant
    _ (Wire None) refl c.requires.open

pub loop-i-preserved : goal.loop-i-preserved
loop-i-preserved c =
    kinds_next c.args.net.now c.loop-i.net c.args.first c.loop-i.i copy_kind c.args.all.now _ (pin_get c.args.all.now c.loop-i.i c.loop-i-test.true) c.loop-i-test.true c.loop-i.invariant
    _ c.set_copy.new.net refl c.set_copy.ensures
