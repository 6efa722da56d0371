use Rattle.std.proofs.Common.{true, false}
use Rattle.safl_opt.proofs.spare.has_own_cell.Goals as goal

pub returns-then-not-is_needed : goal.returns-then-not-is_needed
returns-then-not-is_needed c = ((λ e. absurd (let z = e in cc)), (λ w. absurd (let a = c.is_needed.ensures.1 w.0 in let b = c.if-not-is_needed.true in cc)))

pub returns : goal.returns
returns c = ((λ e. (c.is_needed.ensures.0 c.if-not-is_needed.false, c.is_alone.ensures.0 e)), (λ w. c.is_alone.ensures.1 w.1))
