use Rattle.std.proofs.Common.{◌++◌, sym, ap, ◌∙◌, arith}
use Rattle.safl_net.specs.Netlist.{width_of}
use Rattle.safl_net.specs.Making.{kind_at}
use Rattle.safl_run.specs.Rooms.{own_zero}
use Rattle.safl_run.proofs.InputsAroundStart.{zeros_more, zeros_none}
use Rattle.safl_run.proofs.input_words.zeros.Goals as goal

pub signals-init : goal.signals-init
signals-init c = c.new-words.ensures.items ∙ sym (zeros_none c.args.net.now)

pub signals-preserved : goal.signals-preserved
signals-preserved c =
    let n = c.args.net.now in
    let i = c.signals.i in
    let inside = c.signals-test.true in
    let count = c.signals-i-end.ensures.count in
    c.in_ok-push_zero.ensures ∙ ap (λ l. l ++ own_zero (kind_at n i) (width_of n i)) c.signals.invariant ∙ sym (zeros_more n i (omega (arith, inside, count)))
