use Rattle.safl_opt.proofs.Common.{IsReader, Netlist, ReadsSignal, Reg, SigKind, Some, ap, inl, inr, kind_at, sort_of, ℕ, ◌∙◌, ◌≡◌}
use Rattle.safl_opt.proofs.Reaching.{is_wire}
use Rattle.safl_opt.proofs.spare.reads.Goals as goal

no_reader : (n : Netlist) (a s : ℕ) → SigKind.Input ≡ sort_of (kind_at n a) → IsReader n a s → ⊥
no_reader n a s e (inl r) = let z : SigKind.Input ≡ SigKind.Reg = e ∙ ap sort_of r.1 in absurd (cc)
no_reader n a s e (inr r) = let z : SigKind.Input ≡ SigKind.Wire = e ∙ is_wire n a s r in absurd (cc)

of_register : (n : Netlist) (a s : ℕ) → SigKind.Reg ≡ sort_of (kind_at n a) → IsReader n a s → (init : ℕ) × (kind_at n a ≡ Reg init (Some s))
of_register n a s e (inl r) = r
of_register n a s e (inr r) = let z : SigKind.Reg ≡ SigKind.Wire = e ∙ is_wire n a s r in absurd (cc)

of_wire : (n : Netlist) (a s : ℕ) → SigKind.Wire ≡ sort_of (kind_at n a) → IsReader n a s → ReadsSignal n a s
of_wire n a s e (inl r) = let z : SigKind.Wire ≡ SigKind.Reg = e ∙ ap sort_of r.1 in absurd (cc)
of_wire n a s e (inr r) = r

pub returns-in-Input : goal.returns-in-Input
returns-in-Input c = ((λ e. absurd (let z = e in cc)), (λ w. absurd (no_reader c.args.n.now c.args.a.0 c.args.s.0 c.in-Input.ensures w)))

pub returns-in-Reg : goal.returns-in-Reg
returns-in-Reg c = ((λ e. inl (c.has_next.ensures.0 e)), (λ w. c.has_next.ensures.1 (of_register c.args.n.now c.args.a.0 c.args.s.0 c.in-Reg.ensures w)))

pub returns-in-Wire : goal.returns-in-Wire
returns-in-Wire c = ((λ e. inr (c.has_operand.ensures.0 e)), (λ w. c.has_operand.ensures.1 (of_wire c.args.n.now c.args.a.0 c.args.s.0 c.in-Wire.ensures w)))
