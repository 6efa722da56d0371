use Rattle.safl_opt.proofs.Common.{arith, below_more, false, refl, true, wire_in_net}
use Rattle.safl_opt.proofs.Reaching.{all_wanted, wanted}
use Rattle.safl_opt.proofs.spare.lean.Goals as goal

pub signals-preserved : goal.signals-preserved
signals-preserved c = below_more _ _ c.signals.invariant (c.is_fine.ensures.0 c.if-not-is_fine.false)

pub returns-then-not-is_fine : goal.returns-then-not-is_fine
returns-then-not-is_fine c = ((λ e. absurd (let z = e in cc)), (λ l. absurd (let a = c.is_fine.ensures.1 (wanted c.args.n.now c.signals.i l) in let b = c.if-not-is_fine.true in cc)))

pub returns : goal.returns
returns c = (
  (λ e. all_wanted c.args.n.now c.requires (λ s t. c.signals.invariant s
      (let k = wire_in_net c.args.n.now s t.wire in let a = c.signals-test.false in let d = c.signals-i-end.ensures.count in omega (arith, k, a, d)) t)),
  (λ l. refl),
)
