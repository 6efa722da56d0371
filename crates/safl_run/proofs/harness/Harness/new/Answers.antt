use Rattle.safl_run.proofs.Harnessing.{is_harness}
use Rattle.safl_run.proofs.harness.Harness.new.Goals as goal

pub returns : goal.returns
returns c =
    is_harness c.args.net.now (record { room = c.in_ok-new.field-0; done = c.signal_of.result; result = c.signal_of-2.result }) c.requires
    c.signal_of.ensures.netlist c.in_ok-new.ensures c.signal_of.ensures.signal c.signal_of-2.ensures.signal
