use Rattle.std.proofs.Common.{true, false, inl, inr, refl}
use Rattle.safl_opt.proofs.spare.is_read.Goals as goal

pub returns-then-is_shown : goal.returns-then-is_shown
returns-then-is_shown c = ((λ e. inl (c.is_shown.ensures.0 c.if-is_shown.true)), (λ w. refl))

pub returns : goal.returns
returns c = ((λ e. inr (c.has_reader.ensures.0 e)), (λ w. elim w [ inl h ↦ absurd (let a = c.is_shown.ensures.1 h in let b = c.if-is_shown.false in cc) | inr h ↦ c.has_reader.ensures.1 h ]))
