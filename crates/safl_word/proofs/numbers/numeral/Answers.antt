use Rattle.std.proofs.Common.{◌+◌, ◌*◌, get_or, sym, ◌∙◌, ap, refl, arith}
use Rattle.safl_word.specs.Numerals.{digit, is_digit}
use Rattle.safl_word.proofs.NumeralsRead.{value_more, digits_more, stops_here, read_whole}
use Rattle.safl_word.proofs.numbers.numeral.Goals as goal

pub returns-in_err-number-clause-some : goal.returns-in_err-number-clause-some
returns-in_err-number-clause-some c =
    let none =
    stops_here c.args.base c.args.most _ c.args.bytes.now c.loop-c.c-index c.loop-c.number c.requires c.loop-c-test.true c.loop-c.invariant.counted
    (λ h. let e = c.in_err-number.ensures.some.1 h in cc) in
    rw c.from_residual.ensures (λ e. cc, λ k. absurd (none k))

pub loop-c-preserved : goal.loop-c-preserved
loop-c-preserved c =
    let k = c.in_ok-number.ensures.some.0 refl in
    let m = value_more c.args.base c.args.bytes.now c.loop-c.c-index c.loop-c-test.true in
    record {
      counted = c.in_ok-number.ensures.value ∙ ap (λ n. n * c.args.base + digit (get_or c.args.bytes.now c.loop-c.c-index 0)) c.loop-c.invariant.counted ∙ sym m;
      digits = digits_more (is_digit c.args.base) c.args.bytes.now c.loop-c.c-index c.loop-c-test.true c.loop-c.invariant.digits k.0;
      small = omega (arith, k.1, c.in_ok-number.ensures.value);
    }

pub returns-clause-some : goal.returns-clause-some
returns-clause-some c = (
  λ _.
      read_whole c.args.base c.args.most _ c.args.bytes.now c.loop-c.c-index c.loop-c.number (sym c.if-is_empty.ensures) c.if-bytes-most.false c.loop-c.auto.c-index-end
      c.loop-c-test.false c.loop-c.invariant.counted c.loop-c.invariant.digits c.loop-c.invariant.small,
  λ _. refl,
)
