use Rattle.std.proofs.Common.{arith}
use Rattle.safl_vwrite.proofs.Signals.{port_more}
use Rattle.safl_vwrite.proofs.declarations.push_output_ports.Goals as goal

pub loop-i-preserved : goal.loop-i-preserved
loop-i-preserved c =
    port_more c.args.net.now c.loop-i.i c.output_name.result.now c.args.out.now.items c.loop-i.out.items c.push_port.new.out.items (omega arith)
    c.output_name.ensures c.loop-i.invariant c.in_ok-push_port.ensures
