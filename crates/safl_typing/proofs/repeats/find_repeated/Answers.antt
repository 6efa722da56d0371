use Rattle.safl_typing.proofs.Common.{Bound, bytes_eq, earlier, list_any}
use Rattle.std.proofs.Common.{◌≡◌, ◌∙◌, ap, sym, false}
use Rattle.safl_typing.proofs.BindingsByOne.{repeated_next}
use Rattle.safl_typing.proofs.repeats.find_repeated.Goals as goal

pub loop-i-preserved : goal.loop-i-preserved
loop-i-preserved c =
    let q : list_any (bytes_eq c.index-bound-i.result.name) (earlier c.args.bound.now c.loop-i.i) ≡ false =
    ap (λ (b : Bound). list_any (bytes_eq b.name) (earlier c.args.bound.now c.loop-i.i)) c.index-bound-i.is ∙ (sym c.is_among.ensures ∙ c.if-is_among.false) in
    c.loop-i.invariant ∙ repeated_next c.args.bound.now c.loop-i.i c.index-bound-i.result c.loop-i-test.true c.index-bound-i.is q
