use Rattle.safl_probe.proofs.Common.{Netlist, Word}
use Rattle.std.proofs.Common.{map, length, ap, ◌∙◌, arith}
use Rattle.safl_probe.proofs.Widths.{widths_more, widths_all}
use Rattle.safl_probe.proofs.room.make_room.Goals as goal

pub signals-preserved : goal.signals-preserved
signals-preserved c =
    ap (map (λ (w : Word). w.width)) c.in_ok-push.ensures.items
    ∙ widths_more c.args.sim.now.net.signals c.signals.frame.items c.signals.i c.value.result
    (let d = c.signals-test.true in let e = c.signals-i-end.ensures.count in let f = ap (λ (n : Netlist). length n.signals) c.net.ensures in omega (arith, d, e, f))
    c.signals.invariant (ap (λ (w : Word). w.width) c.value.ensures)

pub returns : goal.returns
returns c =
    c.signals.invariant
    ∙ widths_all c.args.sim.now.net.signals c.signals.i
    (let d = c.signals-test.false in let e = c.signals-i-end.ensures.count in let f = ap (λ (n : Netlist). length n.signals) c.net.ensures in omega (arith, d, e, f))
