use Rattle.std.proofs.Common.{arith}
use Rattle.safl_net.proofs.ArgumentWidths.{widths_more, widths_all}
use Rattle.safl_net.proofs.arguments.argument_widths.Goals as goal

pub signals-preserved : goal.signals-preserved
signals-preserved c =
    widths_more c.args.net.now c.signals.widths.items c.push_width.new.widths.items c.signals.i
    (let a = c.signals-test.true in let b = c.signals-i-end.ensures.count in omega (arith, a, b))
    c.signals.invariant c.in_ok-push_width.ensures

pub returns : goal.returns
returns c =
    widths_all c.args.net.now c.signals.widths.items c.signals.i
    (let a = c.signals-test.false in let b = c.signals-i-end.ensures.count in omega (arith, a, b))
    c.signals.invariant
