use Rattle.std.proofs.Common.{◌<◌, ◌≤◌, length, None, refl, ◌∙◌, arith}
use Rattle.std.proofs.lemmas.List.{get_or-set_other}
use Rattle.safl_core.proofs.WantsForgotten.{clear_site, clear_front, clear_back}
use Rattle.safl_core.proofs.refresh.clear.Goals as goal

pub loop-k-init : goal.loop-k-init
loop-k-init c = record {
  below = λ C u own. clear_front C u c.args.own own c.args.asks.now;
  above = λ j le. refl;
}

pub loop-k-preserved : goal.loop-k-preserved
loop-k-preserved c =
    let k = c.loop-k.k in
    let from : c.args.own.first ≤ k = omega arith in
    let upto : k < c.args.own.end = omega (arith, c.loop-k-test.true) in
    let within : k < length c.loop-k.asks = omega (arith, c.requires, c.loop-k.auto.asks, upto) in
    record {
      below = λ C u own. (clear_site C u k c.args.asks.now c.loop-k.asks _ c.forget.ensures (c.loop-k.invariant.below C u own) c.loop-k.invariant.above within (own.own k from upto)).0;
      above = λ j le. get_or-set_other c.loop-k.asks k j _ None (λ q. absurd (omega (arith, le, q))) ∙ c.loop-k.invariant.above j (omega (arith, le));
    }

pub returns : goal.returns
returns c = λ C u own. clear_back C u c.args.own own c.loop-k.k c.args.asks.now
    c.loop-k.asks (omega (arith, c.loop-k-test.false)) (c.loop-k.invariant.below C u own) c.loop-k.invariant.above
