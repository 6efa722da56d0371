-- What is in reach of a term, by the sites that stand there.
use Rattle.safl_sites.proofs.Common.{Adds, Call, Cons, Const, HasAt, If, Let, List, Loop, Nil, Op, Primitive, Program, SiteSet, Term, Terms}
use Rattle.safl_sites.proofs.Common.{Var, Word, ap, arith, inl, inr, refl, subst, sym, ℕ, ◌<◌, ◌∙◌, ◌≡◌, ◌⊎◌}
use Rattle.safl_term.specs.Standing.{Stands, StandsIn}
use Rattle.safl_sites.specs.Conflicts.{Reaches, Here, Through, ReachesIn}
use Rattle.safl_sites.specs.Reach.{IsInReach, MayReach}
use Rattle.safl_sites.proofs.PartsOfParts.{may_call}
use Rattle.safl_sites.proofs.AddsInSteps.{adds_as, adds_none, adds_then, adds_by}

-- site k is site a, or in reach of a body that a may call
abbrev pub Hits : Program → ℕ → ℕ → Type 0
Hits C k a = (a ≡ k) ⊎ IsInReach C (C.unit (C.callee a)) k

module _ {C : Program} {k : ℕ} where
  pub reaches_by : {t : Term} → Reaches C k t → (a : ℕ) × Stands a t × Hits C k a
  reaches_by (Here s) = (k, s, inl refl)
  reaches_by (Through a g s w u r) = (a, s, inr (record { member = g; is_member = w; unit = u; reached = r }))

  pub reaches_of : {t : Term} (a : ℕ) → Stands a t → Hits C k a → Reaches C k t
  reaches_of {t} a s h = elim h [
    | inl e ↦ Here (subst (λ n. Stands n t) e s)
    | inr h ↦ Through a h.member s h.is_member h.unit h.reached
  ]

  pub reaches_in_by : (ts : Terms) → ReachesIn C k ts → (a : ℕ) × StandsIn a ts × Hits C k a
  unfolding ReachesIn Stands
  reaches_in_by Nil h = absurd h
  reaches_in_by (Cons t ts) h = elim h [
    | inl r ↦ let (a, s, q) = reaches_by r in (a, inl s, q)
    | inr r ↦ let (a, s, q) = reaches_in_by ts r in (a, inr s, q)
  ]

  pub reaches_in_of : (ts : Terms) (a : ℕ) → StandsIn a ts → Hits C k a → ReachesIn C k ts
  unfolding ReachesIn Stands
  reaches_in_of Nil a s h = absurd s
  reaches_in_of (Cons t ts) a s h = elim s [
    | inl s ↦ inl (reaches_of a s h)
    | inr s ↦ inr (reaches_in_of ts a s h)
  ]

  -- ---- by the node of a term

  module _ {t : Term} where
    pub reach_if : {A B D E : Type 0} {c a b : Term} → t ≡ If c a b → Adds A B (Reaches C k c) → Adds B D (Reaches C k a) → Adds D E (Reaches C k b) → Adds A E (Reaches C k t)
    unfolding Stands
    reach_if e x y z =
        adds_by (Reaches C k) e (adds_as
        (λ h. elim h [
          | inl h ↦ elim h [
            | inl r ↦ let (i, s, q) = reaches_by r in reaches_of i (inl s) q
            | inr r ↦ let (i, s, q) = reaches_by r in reaches_of i (inr (inl s)) q
          ]
          | inr r ↦ let (i, s, q) = reaches_by r in reaches_of i (inr (inr s)) q
        ])
        (λ r. let (i, s, q) = reaches_by r in elim s [
          | inl s ↦ inl (inl (reaches_of i s q))
          | inr s ↦ elim s [ inl s ↦ inl (inr (reaches_of i s q)) | inr s ↦ inr (reaches_of i s q) ]
        ])
        (adds_then (adds_then x y) z))

    pub reach_let : {A B D : Type 0} {ts : Terms} {b : Term} → t ≡ Let ts b → Adds A B (ReachesIn C k ts) → Adds B D (Reaches C k b) → Adds A D (Reaches C k t)
    unfolding Stands
    reach_let {A} {B} {D} {ts} {b} e x y =
        adds_by (Reaches C k) e (adds_as
        (λ h. elim h [
          | inl r ↦ let (i, s, q) = reaches_in_by ts r in reaches_of i (inl s) q
          | inr r ↦ let (i, s, q) = reaches_by r in reaches_of i (inr s) q
        ])
        (λ r. let (i, s, q) = reaches_by r in elim s [ inl s ↦ inl (reaches_in_of ts i s q) | inr s ↦ inr (reaches_of i s q) ])
        (adds_then x y))

    pub reach_op : {A B : Type 0} {o : Primitive} {ts : Terms} → t ≡ Op o ts → Adds A B (ReachesIn C k ts) → Adds A B (Reaches C k t)
    unfolding Stands
    reach_op {A} {B} {o} {ts} e h =
        adds_by (Reaches C k) e (adds_as (λ r. let (i, s, q) = reaches_in_by ts r in reaches_of i s q) (λ r. let (i, s, q) = reaches_by r in reaches_in_of ts i s q) h)

    pub reach_loop : {A B : Type 0} {f : ℕ} {ts : Terms} → t ≡ Loop f ts → Adds A B (ReachesIn C k ts) → Adds A B (Reaches C k t)
    unfolding Stands
    reach_loop {A} {B} {f} {ts} e h =
        adds_by (Reaches C k) e (adds_as (λ r. let (i, s, q) = reaches_in_by ts r in reaches_of i s q) (λ r. let (i, s, q) = reaches_by r in reaches_in_of ts i s q) h)

    pub reach_call : {A B : Type 0} {f j : ℕ} {ts : Terms} → t ≡ Call f j ts → C.callee j ≡ f → Adds A B (((k ≡ j) ⊎ IsInReach C (C.unit f) k) ⊎ ReachesIn C k ts) → Adds A B (Reaches C k t)
    unfolding Stands
    reach_call {A} {B} {f} {j} {ts} is e h =
        adds_by (Reaches C k) is (adds_as
        (λ h. elim h [
          | inl h ↦ reaches_of j (inl refl) (elim h [ inl d ↦ inl (sym d) | inr r ↦ inr (subst (λ n. IsInReach C (C.unit n) k) (sym e) r) ])
          | inr r ↦ let (i, s, q) = reaches_in_by ts r in reaches_of i (inr s) q
        ])
        (λ r. let (i, s, q) = reaches_by r in elim s [
          | inl d ↦ inl (elim q [ inl p ↦ inl (sym (d ∙ p)) | inr p ↦ inr (subst (λ n. IsInReach C (C.unit n) k) (ap C.callee (sym d) ∙ e) p) ])
          | inr s ↦ inr (reaches_in_of ts i s q)
        ])
        h)

    pub reach_const : {A : Type 0} {w : Word} → t ≡ Const w → Adds A A (Reaches C k t)
    unfolding Stands
    reach_const e = adds_none (λ r. (reaches_by (subst (λ (x : Term). Reaches C k x) e r)).1)

    pub reach_var : {A : Type 0} {i : ℕ} → t ≡ Var i → Adds A A (Reaches C k t)
    unfolding Stands
    reach_var e = adds_none (λ r. (reaches_by (subst (λ (x : Term). Reaches C k x) e r)).1)

pub reach_more : {C : Program} {k : ℕ} {A B D : Type 0} {t : Term} (ts : Terms) → Adds A B (Reaches C k t) → Adds B D (ReachesIn C k ts) → Adds A D (ReachesIn C k (Cons t ts))
unfolding ReachesIn
reach_more ts x y = adds_then x y

pub reach_nil : (C : Program) (k : ℕ) {A : Type 0} → Adds A A (ReachesIn C k Nil)
unfolding ReachesIn
reach_nil C k = adds_none (λ r. r)

module _ {C : Program} {units : List SiteSet} {n f k : ℕ} {ts : Terms} {t : Term} where
  pub site_below : t ≡ Call f k ts → MayReach C units n t → k < 4032
  site_below e h = omega (arith, (may_call e h).most, h.few)

  pub set_of_unit : {A B : Type 0} → t ≡ Call f k ts → (h : MayReach C units n t) (u j : ℕ) → u ≡ C.unit f → Adds A B (HasAt units u j) → Adds A B (IsInReach C (C.unit f) j)
  set_of_unit {A} {B} is h u j e x =
      let both = h.below.sets (C.unit f) j (may_call is h).lower in
      adds_as (λ y. both.0 (subst (λ i. HasAt units i j) e y)) (λ y. subst (λ i. HasAt units i j) (sym e) (both.1 y)) x
