use Rattle.std.proofs.Common.{sym, ◌∙◌}
use Rattle.safl_vread.proofs.Zeros.{not_zero, all_zeros, zero_more}
use Rattle.safl_vread.proofs.numbers.is_zero.Goals as goal

pub returns-then-digit-ne0 : goal.returns-then-digit-ne0
returns-then-digit-ne0 c = not_zero c.args.bytes.now c.loop-c.c-index c.loop-c-test.true (λ e. c.if-digit-ne0.true (c.digit.ensures ∙ e))

pub loop-c-preserved : goal.loop-c-preserved
loop-c-preserved c = zero_more c.args.bytes.now c.loop-c.c-index c.loop-c-test.true c.loop-c.invariant (sym c.digit.ensures ∙ c.if-digit-ne0.false)

pub returns : goal.returns
returns c = all_zeros c.args.bytes.now c.loop-c.c-index c.loop-c.auto.c-index-end c.loop-c-test.false c.loop-c.invariant
