use Rattle.std.proofs.Common.{get_or, ◌∙◌, sym, arith}
use Rattle.safl_word.specs.Numerals.{is_digit}
use Rattle.safl_word.proofs.NumeralsRead.{value_more, digits_more}
use Rattle.safl_word.proofs.Digits.{digit_is, digit_range, digit_passes, digit_fits, next_power}
use Rattle.safl_word.proofs.numbers.short_number.Goals as goal

pub overflow_mul-number : goal.overflow_mul-number
overflow_mul-number c =
    let inside = c.loop-c-test.true in
    let short = c.requires.short in
    let h = digit_fits c.loop-c.c-index c.loop-c.number 0 (omega (arith, inside, short)) c.loop-c.invariant.small (omega arith) in
    omega (arith, h)

pub overflow_add-number : goal.overflow_add-number
overflow_add-number c =
    let inside = c.loop-c-test.true in
    let short = c.requires.short in
    let range = digit_range (get_or c.args.text.now c.loop-c.c-index 0) (sym c.is_ascii_digit.ensures.value ∙ c.if-not-is_ascii_digit.false) in
    let high = range.1 in
    let is = c.from.ensures in
    let h = digit_fits c.loop-c.c-index c.loop-c.number c.from.result (omega (arith, inside, short)) c.loop-c.invariant.small (omega (arith, high, is)) in
    omega (arith, h)

pub loop-c-preserved : goal.loop-c-preserved
loop-c-preserved c =
    let i = c.loop-c.c-index in
    let d = get_or c.args.text.now i 0 in
    let range = digit_range d (sym c.is_ascii_digit.ensures.value ∙ c.if-not-is_ascii_digit.false) in
    let high = range.1 in
    let is = c.from.ensures in
    let m = value_more 10 c.args.text.now i c.loop-c-test.true in
    let f = digit_is d high in
    let e = c.loop-c.invariant.counted in
    record {
      counted = omega (arith, m, is, e, f);
      digits = digits_more (is_digit 10) c.args.text.now i c.loop-c-test.true c.loop-c.invariant.digits (digit_passes d range.0 high);
      small = next_power i c.loop-c.number c.from.result c.loop-c.invariant.small (omega (arith, high, is));
    }
