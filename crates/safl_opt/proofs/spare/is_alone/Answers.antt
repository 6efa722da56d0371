use Rattle.safl_opt.proofs.Common.{arith, below_more, false, refl, true, wire_in_net}
use Rattle.safl_opt.proofs.spare.is_alone.Goals as goal

pub signals-preserved : goal.signals-preserved
signals-preserved c = below_more _ _ c.signals.invariant (c.is_other.ensures.0 c.if-not-is_other.false)

pub returns-then-not-is_other : goal.returns-then-not-is_other
returns-then-not-is_other c = ((λ e. absurd (let z = e in cc)), (λ w. absurd (let a = c.is_other.ensures.1 (w c.signals.i) in let b = c.if-not-is_other.true in cc)))

pub returns : goal.returns
returns c = (
  (λ e t h. c.signals.invariant t (let k = wire_in_net c.args.n.now t h.temporary.wire in let a = c.signals-test.false in let d = c.signals-i-end.ensures.count in omega (arith, k, a, d)) h),
  (λ w. refl),
)
