use Rattle.safl_bits.proofs.Common.{arith, length, nat_le, on, shown, sym, take, ◌*◌, ◌+◌, ◌<◌, ◌^◌, ◌∙◌}
use Rattle.safl_bits.proofs.Growing.{grows_on, grows_within, holds_before}
use Rattle.safl_bits.proofs.Places.{at, shown_more, taken_lt}
use Rattle.safl_bits.proofs.Steps.{covers_step}
use Rattle.safl_bits.proofs.words.covers.Goals as goal

pub loop-i-preserved : goal.loop-i-preserved
loop-i-preserved c =
    let j = c.loop-i.invariant in
    let l = c.loop-i-test.true in
    let i = c.loop-i.i in
    let a = c.args.a.now in
    let b = c.args.b.now in
    let lb : i < length b = let f = c.requires.alike in omega arith in
    let built = c.covers_with.ensures.built in
    record {
      built = grows_within (4 * (i + 1)) (grows_on j.built built) (omega arith);
      fits = c.in_ok-holds.ensures.fits;
      value = λ m h. c.in_ok-holds.ensures.value m h
          ∙ covers_step (2 ^ i) (shown m (take i a)) (shown m (take i b)) (on m c.loop-i.holds) (on m (at a i)) (on m (at b i))
          (taken_lt m a i (omega arith)) (taken_lt m b i (omega arith)) (j.value m (holds_before built h))
          ∙ sym (λ k. nat_le (shown_more m b i lb k) (shown_more m a i l k));
    }
