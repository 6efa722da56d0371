use Rattle.safl_vwrite.proofs.Common.{arith, wire_assignment}
use Rattle.safl_vwrite.proofs.Signals.{signal_more}
use Rattle.safl_vwrite.proofs.statements.assign_wires.Goals as goal

pub loop-i-preserved : goal.loop-i-preserved
loop-i-preserved c = signal_more (wire_assignment c.args.net.now) c.args.net.now c.loop-i.i c.args.out.now.items c.loop-i.out.items
    c.assign_wire.new.out.items (omega arith) c.loop-i.invariant c.in_ok-assign_wire.ensures
