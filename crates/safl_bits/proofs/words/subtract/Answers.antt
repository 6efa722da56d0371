use Rattle.safl_bits.proofs.Common.{ap, bit_of, length, not, on, shown, subst, sym, ◌*◌, ◌+◌, ◌<◌, ◌^◌, ◌∙◌, ◌≡◌}
use Rattle.safl_bits.proofs.Growing.{holds_before}
use Rattle.safl_bits.proofs.Places.{shown_lt}
use Rattle.safl_bits.proofs.Steps.{difference_is}
use Rattle.safl_bits.proofs.words.subtract.Goals as goal

pub returns-clause-value : goal.returns-clause-value
returns-clause-value c = λ m h.
    let a = c.args.a.now in
    let b = c.args.b.now in
    let o = c.in_ok-other.other.items in
    let r = c.in_ok-sum.sum in
    let one = c.inverse-one.ensures.value m ∙ ap not (c.bottom.ensures.value m (holds_before c.add.ensures.built h)) in
    let e : shown m r.bits.items + 2 ^ length a * bit_of (on m r.carry) ≡ shown m a + shown m o + 1 = c.in_ok-sum.ensures.sum.value m h ∙
    (λ i. shown m a + shown m (c.deref.ensures.value i) + bit_of (one i)) in
    let k : shown m o + shown m b + 1 ≡ 2 ^ length a = c.in_ok-other.ensures.value m ∙ ap (λ n. 2 ^ n) (sym c.requires.alike) in
    difference_is (shown m r.bits.items) (2 ^ length a) (shown m a) (shown m b) (shown m o) (bit_of (on m r.carry)) e k
    (subst (λ n. shown m r.bits.items < 2 ^ n) c.in_ok-sum.ensures.sum.long (shown_lt m r.bits.items))
