use Rattle.std.proofs.Common.{true, false, refl, sym, ◌∙◌, below_more, arith}
use Rattle.safl_opt.proofs.Starting.{sig_or}
use Rattle.safl_opt.proofs.Sparing.{same_lists, same_at}
use Rattle.safl_opt.proofs.spare.are_equal.Goals as goal

pub all-preserved : goal.all-preserved
all-preserved c = below_more _ _ c.all.invariant (sym (sig_or c.args.a.now c.all.i) ∙ c.is_equal.ensures.0 c.if-not-is_equal.false ∙ sig_or c.args.b.now c.all.i)

pub returns-then-not-is_equal : goal.returns-then-not-is_equal
returns-then-not-is_equal c = (
  (λ e. absurd (let z = e in cc)),
  (λ w. absurd (let a = c.is_equal.ensures.1 (sig_or c.args.a.now c.all.i ∙ same_at c.args.a.now c.args.b.now c.all.i w ∙ sym (sig_or c.args.b.now c.all.i)) in let b = c.if-not-is_equal.true in cc)),
)

pub returns : goal.returns
returns c = ((λ e. same_lists c.args.a.now c.args.b.now c.requires (λ k lt. c.all.invariant k (omega (arith, lt)))), (λ w. refl))
