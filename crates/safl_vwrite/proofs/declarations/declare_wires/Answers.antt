use Rattle.safl_vwrite.proofs.Common.{arith, wire_declaration}
use Rattle.safl_vwrite.proofs.Signals.{signal_more}
use Rattle.safl_vwrite.proofs.declarations.declare_wires.Goals as goal

pub loop-i-preserved : goal.loop-i-preserved
loop-i-preserved c = signal_more wire_declaration c.args.net.now c.loop-i.i c.args.out.now.items c.loop-i.out.items c.declare_wire.new.out.items
    (omega arith) c.loop-i.invariant c.in_ok-declare_wire.ensures
