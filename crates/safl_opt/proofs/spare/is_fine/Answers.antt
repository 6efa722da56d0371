use Rattle.std.proofs.Common.{true, false, refl}
use Rattle.safl_opt.proofs.spare.is_fine.Goals as goal

pub is_wanted-requires : goal.is_wanted-requires
is_wanted-requires c = (c.is_temporary.ensures.0 c.if-not-is_temporary.false).wire

pub returns-then-not-is_temporary : goal.returns-then-not-is_temporary
returns-then-not-is_temporary c = ((λ e t. absurd (let a = c.is_temporary.ensures.1 t in let b = c.if-not-is_temporary.true in cc)), (λ w. refl))

pub returns : goal.returns
returns c = ((λ e t. c.is_wanted.ensures.0 e), (λ w. c.is_wanted.ensures.1 (w (c.is_temporary.ensures.0 c.if-not-is_temporary.false))))
