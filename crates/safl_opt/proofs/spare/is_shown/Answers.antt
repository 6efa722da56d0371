use Rattle.safl_opt.proofs.Common.{cases_eq, slice_get_within}
use Rattle.std.proofs.Common.{◌≡◌, ℕ, List, true, false, inl, inr, slice_get, refl, sym, ap, ◌∙◌, arith}
use Rattle.safl_opt.proofs.Showing.{output_at}
use Rattle.safl_opt.proofs.spare.is_shown.Goals as goal

pub outputs-preserved : goal.outputs-preserved
outputs-preserved c = λ k o lt e q.
    let outputs = c.args.n.now.outputs in
    let at = output_at c.args.n.now c.outputs.i c.output_sig-shown.result.0 c.output_sig-shown.ensures in
    elim (cases_eq k c.outputs.i) [
      | inl same ↦
          let one : o ≡ at.0 = (let z = sym e ∙ ap (slice_get outputs) same ∙ at.1 in cc) in
          c.if-shown-s.false (at.2 ∙ ap (λ (x : List ℕ × ℕ). x.1) (sym one) ∙ q)
      | inr d ↦ c.outputs.invariant k o (omega (arith, lt, d)) e q
    ]

pub returns-then-shown-s : goal.returns-then-shown-s
returns-then-shown-s c =
    let o = output_at c.args.n.now c.outputs.i c.output_sig-shown.result.0 c.output_sig-shown.ensures in
    ((λ e. record { index = c.outputs.i; output = o.0; there = o.1; is = sym o.2 ∙ c.if-shown-s.true }), (λ w. refl))

pub returns : goal.returns
returns c = (
  (λ e. absurd (let z = e in cc)),
  (λ w. absurd (c.outputs.invariant w.index w.output (let k = slice_get_within c.args.n.now.outputs w.index w.output w.there in let a = c.outputs-test.false in
      let d = c.outputs-i-end.ensures in omega (arith, k, a, d)) w.there w.is)),
)
