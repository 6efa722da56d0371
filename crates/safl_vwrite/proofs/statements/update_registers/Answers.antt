use Rattle.safl_vwrite.proofs.Common.{arith, register_update}
use Rattle.safl_vwrite.proofs.Signals.{signal_more}
use Rattle.safl_vwrite.proofs.statements.update_registers.Goals as goal

pub loop-i-preserved : goal.loop-i-preserved
loop-i-preserved c = signal_more (register_update c.args.net.now) c.args.net.now c.loop-i.i c.args.out.now.items c.loop-i.out.items
    c.update_register.new.out.items (omega arith) c.loop-i.invariant c.in_ok-update_register.ensures
