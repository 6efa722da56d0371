use Rattle.std.proofs.Common.{◌+◌, ◌*◌, get_or, sym, ◌∙◌, ap, refl, arith}
use Rattle.safl_word.specs.Numerals.{digit}
use Rattle.safl_word.proofs.NumeralsRead.{value_more}
use Rattle.safl_vparse.proofs.NumbersRead.{too_great, all_read}
use Rattle.safl_vparse.proofs.numbers.bounded.Goals as goal

pub returns-in_err-number : goal.returns-in_err-number
returns-in_err-number c =
    rw c.from_residual.ensures (too_great c.args.base c.args.bytes.now c.loop-c.c-index c.loop-c.number c.requires c.loop-c-test.true
    c.loop-c.invariant.counted (λ h. let e = c.in_err-number.ensures.some.1 h in cc))

pub loop-c-preserved : goal.loop-c-preserved
loop-c-preserved c =
    let k = c.in_ok-number.ensures.some.0 refl in
    let m = value_more c.args.base c.args.bytes.now c.loop-c.c-index c.loop-c-test.true in
    record {
      counted = c.in_ok-number.ensures.value ∙ ap (λ n. n * c.args.base + digit (get_or c.args.bytes.now c.loop-c.c-index 0)) c.loop-c.invariant.counted ∙ sym m;
      small = omega (arith, k, c.in_ok-number.ensures.value);
    }

pub returns : goal.returns
returns c = all_read c.args.base c.args.bytes.now c.loop-c.c-index c.loop-c.number c.if-bytes-gt-DIGITS_MAX.false c.loop-c.auto.c-index-end
    c.loop-c-test.false c.loop-c.invariant.counted c.loop-c.invariant.small
