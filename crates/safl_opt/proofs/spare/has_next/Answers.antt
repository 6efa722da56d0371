use Rattle.safl_opt.proofs.Common.{Netlist, None, Reg, Some, ap, next_kind, ℕ, ◌∙◌, ◌≡◌}
use Rattle.std.proofs.lemmas.Bool.{eqb-true, eq-eqb}
use Rattle.safl_net.specs.Making.{kind_at, next_in}
use Rattle.safl_opt.proofs.spare.has_next.Goals as goal

same_next : (n : Netlist) (r s t : ℕ) → Some t ≡ next_in (kind_at n r) → t ≡ s → (init : ℕ) × (kind_at n r ≡ Reg init (Some s))
same_next n r s t e q = let k = next_kind (kind_at n r) t e in (k.0, k.1 ∙ ap (λ x. Reg k.0 (Some x)) q)

only_next : (n : Netlist) (r s t : ℕ) → Some t ≡ next_in (kind_at n r) → (init : ℕ) × (kind_at n r ≡ Reg init (Some s)) → t ≡ s
only_next n r s t e k = let z : Some t ≡ Some s = e ∙ ap next_in k.1 in cc

pub returns-in-Some : goal.returns-in-Some
returns-in-Some c = (
  (λ e. same_next c.args.n.now c.args.r.0 c.args.s.0 c.in-Some.next.0 c.in-Some.ensures (eqb-true c.in-Some.next.0 c.args.s.0 e)),
  (λ w. eq-eqb c.in-Some.next.0 c.args.s.0 (only_next c.args.n.now c.args.r.0 c.args.s.0 c.in-Some.next.0 c.in-Some.ensures w)),
)

pub returns-in-None : goal.returns-in-None
returns-in-None c = ((λ e. absurd (let z = e in cc)), (λ w. absurd (let z : None ≡ Some c.args.s.0 = c.in-None.ensures ∙ ap next_in w.1 in cc)))
