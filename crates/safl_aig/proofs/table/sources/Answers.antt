use Rattle.safl_aig.proofs.Common.{length_push, summed_more}
use Rattle.std.proofs.Common.{◌+◌, length, ap, ◌∙◌, arith}
use Rattle.safl_net.specs.Netlist.{is_input, is_register}
use Rattle.safl_aig.specs.Tables.{width_if}
use Rattle.safl_aig.proofs.Sources.{bits_step, pushed_lits}
use Rattle.safl_aig.proofs.table.sources.Goals as goal

pub source-requires-clause-inputs_few : goal.source-requires-clause-inputs_few
source-requires-clause-inputs_few c =
    let n = c.args.net.now in
    let b = bits_step is_input n c.signals.i (let l = c.signals-test.true in let e = c.signals-i-end.ensures.count in omega (arith, l, e)) in
    omega (arith, b, c.signals.invariant.input, c.requires.few)

pub source-requires-clause-latches_few : goal.source-requires-clause-latches_few
source-requires-clause-latches_few c =
    let n = c.args.net.now in
    let b = bits_step is_register n c.signals.i (let l = c.signals-test.true in let e = c.signals-i-end.ensures.count in omega (arith, l, e)) in
    omega (arith, b, c.signals.invariant.latch, c.requires.few)

pub overflow_add-input : goal.overflow_add-input
overflow_add-input c =
    let n = c.args.net.now in
    let b = bits_step is_input n c.signals.i (let l = c.signals-test.true in let e = c.signals-i-end.ensures.count in omega (arith, l, e)) in
    omega (arith, b, c.signals.invariant.input, c.requires.few)

pub overflow_add-latch-in-signals : goal.overflow_add-latch-in-signals
overflow_add-latch-in-signals c =
    let n = c.args.net.now in
    let b = bits_step is_register n c.signals.i (let l = c.signals-test.true in let e = c.signals-i-end.ensures.count in omega (arith, l, e)) in
    omega (arith, b, c.signals.invariant.latch, c.requires.few)

pub signals-preserved : goal.signals-preserved
signals-preserved c =
    let n = c.args.net.now in
    let j = c.signals.invariant in
    let i = c.signals.i in
    let e = c.in_ok-push.ensures.items in
    record {
      long = ap length e ∙ length_push c.signals.table.items (record { bits = c.in_ok-bits.bits }) ∙ ap (λ k. k + 1) j.long;
      lits = pushed_lits n c.signals.table.items c.push.new.self.items (record { bits = c.in_ok-bits.bits }) i j.long e j.lits c.in_ok-bits.ensures;
      input = (let f = summed_more (width_if is_input n) i in let w = c.width_if-input.ensures.width in omega (arith, f, w, j.input));
      latch = (let f = summed_more (width_if is_register n) i in let w = c.width_if-latch.ensures.width in omega (arith, f, w, j.latch));
    }
