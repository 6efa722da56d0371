use Rattle.safl_opt.proofs.Sparing.{same_long}
use Rattle.safl_opt.proofs.spare.are_same.Goals as goal

pub returns : goal.returns
returns c = (
  (λ e. absurd (let z = e in cc)),
  (λ w. absurd (c.if-count-other.false (same_long c.args.a.now c.args.b.now w))),
)
