use Rattle.safl_opt.proofs.Common.{ap, numbers, operands_in, operands_of, slice_get, sym, ◌∙◌, ◌≡◌}
use Rattle.safl_opt.proofs.spare.has_operand.Goals as goal

pub returns-in-Some : goal.returns-in-Some
returns-in-Some c =
    let q : operands_of c.args.n.now c.args.a.0 ≡ numbers c.as_slice.result.now = ap operands_in (sym c.in-Some.ensures) ∙ sym (ap numbers c.as_slice.ensures.value) in (
      (λ e. let r = c.contains.ensures.0 e in (r.0, ap (λ l. slice_get l r.0) q ∙ r.1)),
      (λ w. c.contains.ensures.1 (w.0, ap (λ l. slice_get l w.0) (sym q) ∙ w.1)),
    )

pub returns-in-None : goal.returns-in-None
returns-in-None c = (
  (λ e. absurd (let z = e in cc)),
  (λ w. absurd (let z = ap (λ o. slice_get (operands_in o) w.0) c.in-None.ensures ∙ w.1 in cc)),
)
