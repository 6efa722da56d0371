-- What joins in steps joins as a whole.
use Rattle.safl_sites.proofs.Common.{Adds, Term, inl, inr, subst, sym, ◌≡◌, ◌⊎◌}

pub adds_then : {A B D P Q : Type 0} → Adds A B P → Adds B D Q → Adds A D (P ⊎ Q)
adds_then x y = record {
  splits = λ d. elim (y.splits d) [ inl b ↦ elim (x.splits b) [ inl a ↦ inl a | inr p ↦ inr (inl p) ] | inr q ↦ inr (inr q) ];
  stays = λ a. y.stays (x.stays a);
  joins = λ r. elim r [ inl p ↦ y.stays (x.joins p) | inr q ↦ y.joins q ];
}

pub adds_as : {A B P Q : Type 0} → (P → Q) → (Q → P) → Adds A B P → Adds A B Q
adds_as to from x = record {
  splits = λ b. elim (x.splits b) [ inl a ↦ inl a | inr p ↦ inr (to p) ];
  stays = x.stays;
  joins = λ q. x.joins (from q);
}

pub adds_none : {A P : Type 0} → (P → ⊥) → Adds A A P
adds_none never = record { splits = λ a. inl a; stays = λ a. a; joins = λ p. absurd (never p) }

-- what joins by a term's node
pub adds_by : {A B : Type 0} (P : Term → Type 0) {t u : Term} → t ≡ u → Adds A B (P u) → Adds A B (P t)
adds_by {A} {B} P e h = subst (λ (x : Term). Adds A B (P x)) (sym e) h
