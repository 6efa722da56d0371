use Rattle.std.proofs.Common.{map, arith}
use Rattle.safl_net.specs.Netlist.{width_of}
use Rattle.safl_sim.specs.Places.{inputs_of}
use Rattle.safl_net_tests.proofs.Inputs.{widths_more, widths_end}
use Rattle.safl_net_tests.proofs.nets.input_widths.Goals as goal

pub signals-preserved : goal.signals-preserved
signals-preserved c =
    let n = c.args.net.now in
    widths_more n c.signals.widths.items c.push_width.new.widths.items (map (width_of n) (inputs_of n)) c.signals.i
    (let a = c.signals-test.true in let b = c.signals-i-end.ensures.count in omega (arith, a, b))
    c.signals.invariant c.in_ok-push_width.ensures

pub returns : goal.returns
returns c =
    let n = c.args.net.now in
    widths_end n c.signals.widths.items (map (width_of n) (inputs_of n)) c.signals.i
    (let a = c.signals-test.false in let b = c.signals-i-end.ensures.count in omega (arith, a, b))
    c.signals.invariant
