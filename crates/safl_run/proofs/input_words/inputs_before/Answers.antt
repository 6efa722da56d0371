use Rattle.std.proofs.Common.{ap, ◌∙◌, arith}
use Rattle.safl_net.specs.Netlist.{width_of}
use Rattle.safl_net.specs.Making.{kind_at}
use Rattle.safl_run.specs.Rooms.{own_zero, zeros_of}
use Rattle.safl_run.proofs.InputsAroundStart.{zeros_more, zeros_none}
use Rattle.std.proofs.Common.{length, take, sym}
use Rattle.std.proofs.lemmas.List.{length-append}
use Rattle.safl_run.proofs.input_words.inputs_before.Goals as goal

pub signals-init : goal.signals-init
signals-init c = record { count = ap length (sym (zeros_none c.args.net.now)); small = omega arith }

pub signals-preserved : goal.signals-preserved
signals-preserved c =
    let n = c.args.net.now in
    let i = c.signals.i in
    let inside = c.signals-test.true in
    let known = c.requires in
    let before = c.signals.invariant.count in
    let few = c.signals.invariant.small in
    let here = c.inputs_at-count.ensures.count in
    let one = c.inputs_at-count.ensures.small in
    let more = ap length (zeros_more n i (omega (arith, inside, known))) ∙ length-append (zeros_of (take i n.signals)) (own_zero (kind_at n i) (width_of n i)) in
    record { count = omega (arith, before, here, more); small = omega (arith, few, one) }
