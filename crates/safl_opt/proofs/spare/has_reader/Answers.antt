use Rattle.std.proofs.Common.{true, false, refl, below_more, arith}
use Rattle.safl_opt.proofs.Reaching.{reader_known}
use Rattle.safl_opt.proofs.spare.has_reader.Goals as goal

pub signals-preserved : goal.signals-preserved
signals-preserved c = below_more _ _ c.signals.invariant (λ r. let a = c.reads.ensures.1 r in let b = c.if-reads.false in absurd (cc))

pub returns-then-reads : goal.returns-then-reads
returns-then-reads c = ((λ e. (c.signals.i, c.reads.ensures.0 c.if-reads.true)), (λ w. refl))

pub returns : goal.returns
returns c = (
  (λ e. absurd (let z = e in cc)),
  (λ w. absurd (c.signals.invariant w.0 (let k = reader_known c.args.n.now w.0 c.args.s.0 w.1 in let a = c.signals-test.false in let d = c.signals-i-end.ensures.count in omega (arith, k, a, d)) w.1)),
)
