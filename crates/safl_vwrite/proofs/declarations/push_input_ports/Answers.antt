use Rattle.safl_vwrite.proofs.Common.{arith, input_port}
use Rattle.safl_vwrite.proofs.Signals.{signal_more}
use Rattle.safl_vwrite.proofs.declarations.push_input_ports.Goals as goal

pub loop-i-preserved : goal.loop-i-preserved
loop-i-preserved c = signal_more input_port c.args.net.now c.loop-i.i c.args.out.now.items c.loop-i.out.items c.push_input_port.new.out.items
    (omega arith) c.loop-i.invariant c.in_ok-push_input_port.ensures
