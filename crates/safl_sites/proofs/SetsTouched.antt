-- What is in the sets of the slots that a term uses, by its parts.
use Rattle.safl_sites.proofs.Common.{Adds, Call, Cons, Const, Has, HasAt, If, Let, List, Loop, Nil, Op, Primitive, SiteSet, Term, Terms}
use Rattle.safl_sites.proofs.Common.{Var, Word, arith, get_or_past, inl, inr, length, no_set, refl, subst, sym, ℕ, ◌<◌, ◌≡◌, ◌≤◌}
use Rattle.safl_sites.specs.Kept.{Uses}
use Rattle.safl_sites.specs.Touched.{IsTouched, IsTouchedIn}
use Rattle.safl_sites.proofs.AddsInSteps.{adds_as, adds_none, adds_then, adds_by}
use Rattle.safl_sites.proofs.SetsByWords.{no_set_has}

-- by the node of a term
module _ {R : List SiteSet} {low k : ℕ} {t : Term} where
  pub touch_if : {A B D E : Type 0} {c a b : Term} → t ≡ If c a b → Adds A B (IsTouched R low k c) → Adds B D (IsTouched R low k a) → Adds D E (IsTouched R low k b) → Adds A E (IsTouched R low k t)
  unfolding Uses
  touch_if e x y z =
      adds_by (IsTouched R low k) e (adds_as
      (λ h. elim h [
        | inl h ↦ elim h [
          | inl h ↦ record { slot = h.slot; from = h.from; used = inl h.used; set = h.set }
          | inr h ↦ record { slot = h.slot; from = h.from; used = inr (inl h.used); set = h.set }
        ]
        | inr h ↦ record { slot = h.slot; from = h.from; used = inr (inr h.used); set = h.set }
      ])
      (λ h. elim h.used [
        | inl u ↦ inl (inl (record { slot = h.slot; from = h.from; used = u; set = h.set }))
        | inr u ↦ elim u [
          | inl u ↦ inl (inr (record { slot = h.slot; from = h.from; used = u; set = h.set }))
          | inr u ↦ inr (record { slot = h.slot; from = h.from; used = u; set = h.set })
        ]
      ])
      (adds_then (adds_then x y) z))

  pub touch_let : {A B D : Type 0} {ts : Terms} {b : Term} → t ≡ Let ts b → Adds A B (IsTouchedIn R low k ts) → Adds B D (IsTouched R low k b) → Adds A D (IsTouched R low k t)
  unfolding Uses
  touch_let e x y =
      adds_by (IsTouched R low k) e (adds_as
      (λ h. elim h [
        | inl h ↦ record { slot = h.slot; from = h.from; used = inl h.used; set = h.set }
        | inr h ↦ record { slot = h.slot; from = h.from; used = inr h.used; set = h.set }
      ])
      (λ h. elim h.used [
        | inl u ↦ inl (record { slot = h.slot; from = h.from; used = u; set = h.set })
        | inr u ↦ inr (record { slot = h.slot; from = h.from; used = u; set = h.set })
      ])
      (adds_then x y))

  pub touch_op : {A B : Type 0} {o : Primitive} {ts : Terms} → t ≡ Op o ts → Adds A B (IsTouchedIn R low k ts) → Adds A B (IsTouched R low k t)
  unfolding Uses
  touch_op e x = adds_by (IsTouched R low k) e (adds_as (λ h. record { slot = h.slot; from = h.from; used = h.used; set = h.set })
      (λ h. record { slot = h.slot; from = h.from; used = h.used; set = h.set }) x)

  pub touch_call : {A B : Type 0} {f j : ℕ} {ts : Terms} → t ≡ Call f j ts → Adds A B (IsTouchedIn R low k ts) → Adds A B (IsTouched R low k t)
  unfolding Uses
  touch_call e x = adds_by (IsTouched R low k) e (adds_as (λ h. record { slot = h.slot; from = h.from; used = h.used; set = h.set })
      (λ h. record { slot = h.slot; from = h.from; used = h.used; set = h.set }) x)

  pub touch_loop : {A B : Type 0} {f : ℕ} {ts : Terms} → t ≡ Loop f ts → Adds A B (IsTouchedIn R low k ts) → Adds A B (IsTouched R low k t)
  unfolding Uses
  touch_loop e x = adds_by (IsTouched R low k) e (adds_as (λ h. record { slot = h.slot; from = h.from; used = h.used; set = h.set })
      (λ h. record { slot = h.slot; from = h.from; used = h.used; set = h.set }) x)

  pub touch_const : {A : Type 0} {w : Word} → t ≡ Const w → Adds A A (IsTouched R low k t)
  unfolding Uses
  touch_const e = adds_by (IsTouched R low k) e (adds_none (λ h. h.used))

  pub touch_var : {A B : Type 0} {i : ℕ} → t ≡ Var i → low ≤ i → Adds A B (HasAt R i k) → Adds A B (IsTouched R low k t)
  unfolding Uses
  touch_var {A} {B} {i} e from x =
      adds_by (IsTouched R low k) e (adds_as (λ h. record { slot = i; from = from; used = refl; set = h }) (λ h. subst (λ j. HasAt R j k) (sym h.used) h.set) x)

  pub touch_below : {A : Type 0} {i : ℕ} → t ≡ Var i → i < low → Adds A A (IsTouched R low k t)
  unfolding Uses
  touch_below e less = adds_by (IsTouched R low k) e (adds_none (λ h. omega (arith, h.used, h.from)))

  pub touch_past : {A : Type 0} {i : ℕ} → t ≡ Var i → length R ≤ i → Adds A A (IsTouched R low k t)
  unfolding Uses
  touch_past {A} {i} e past =
      adds_by (IsTouched R low k) e (adds_none (λ h. no_set_has k (subst (λ (r : SiteSet). Has r k) (get_or_past R i no_set past) (subst (λ j. HasAt R j k) (sym h.used) h.set))))

pub touch_more : {R : List SiteSet} {low k : ℕ} {A B D : Type 0} (t : Term) (ts : Terms) → Adds A B (IsTouched R low k t)
    → Adds B D (IsTouchedIn R low k ts) → Adds A D (IsTouchedIn R low k (Cons t ts))
unfolding Uses
touch_more t ts x y =
    adds_as
    (λ h. elim h [
      | inl h ↦ record { slot = h.slot; from = h.from; used = inl h.used; set = h.set }
      | inr h ↦ record { slot = h.slot; from = h.from; used = inr h.used; set = h.set }
    ])
    (λ h. elim h.used [
      | inl u ↦ inl (record { slot = h.slot; from = h.from; used = u; set = h.set })
      | inr u ↦ inr (record { slot = h.slot; from = h.from; used = u; set = h.set })
    ])
    (adds_then x y)

pub touch_nil : (R : List SiteSet) (low k : ℕ) {A : Type 0} → Adds A A (IsTouchedIn R low k Nil)
unfolding Uses
touch_nil R low k = adds_none (λ h. h.used)
