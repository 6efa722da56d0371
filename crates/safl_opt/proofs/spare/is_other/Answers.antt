use Rattle.std.proofs.Common.{◌≡◌, Bool, true, false, not, refl}
use Rattle.safl_opt.proofs.Sparing.{not_true}
use Rattle.safl_opt.proofs.spare.is_other.Goals as goal

pub returns-then-t-s : goal.returns-then-t-s
returns-then-t-s c = ((λ e h. c.if-t-s.true), (λ w. refl))

pub returns-then-not-is_temporary : goal.returns-then-not-is_temporary
returns-then-not-is_temporary c = ((λ e h. absurd (let a = c.is_temporary.ensures.1 h.temporary in let b = c.if-not-is_temporary.true in cc)), (λ w. refl))

pub has_cell-requires : goal.has_cell-requires
has_cell-requires c = (c.is_temporary.ensures.0 c.if-not-is_temporary.false).wire

pub returns : goal.returns
returns c = (
  (λ e h. absurd (let a = c.has_cell.ensures.1 h.cell in not_true c.has_cell.result e a)),
  (λ w. by c.has_cell.result (λ a. c.if-t-s.false (w (record { temporary = c.is_temporary.ensures.0 c.if-not-is_temporary.false; cell = c.has_cell.ensures.0 a })))),
)
  where
    by : (r : Bool) → (r ≡ true → ⊥) → not r ≡ true
    by true h = absurd (h refl)
    by false h = refl
