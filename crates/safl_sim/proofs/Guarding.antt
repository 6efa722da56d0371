-- The guards of readers, part by part.
use Rattle.std.proofs.Common.{◌≡◌, ◌⊎◌, inl, inr, ℕ, zero, suc, ◌+◌, ◌<◌, ◌≤◌, List, length, set, Some, slice_get, slice_index, refl, sym, ap, subst, ◌∙◌, arith}
use Rattle.std.proofs.lemmas.List.{length-set}
use Rattle.safl_word.proofs.Naturals.{lower_or_last}
use Rattle.safl_sim.specs.declared.step.Guard.{Guard}
use Rattle.safl_sim.specs.declared.step.Step.{Step}
use Rattle.safl_sim.specs.Guards.{IsGuard}
use Rattle.safl_sim.specs.Readers.{Lists}
use Rattle.safl_sim.proofs.Tables.{get_set_same, get_set_other}

-- of the part of a place, the readers up to a number have their guards, and no other guard has changed
pub record PartTo (steps : List Step) (readers : List ℕ) (place from to : ℕ) (old new : List Guard) : Type 0 where
  pub long : length new ≡ length old
  pub each : (j k : ℕ) (g : Guard) → from ≤ j → j < to → slice_get readers j ≡ Some k → slice_get new j ≡ Some g → IsGuard steps place k g
  pub others : (j : ℕ) → (j < from) ⊎ (to ≤ j) → slice_get new j ≡ slice_get old j

pub part_none : (steps : List Step) (readers : List ℕ) (place from : ℕ) (old : List Guard) → PartTo steps readers place from from old old
part_none steps readers place from old = record {
  long = refl;
  each = λ j k g f t e h. absurd (omega (arith, f, t));
  others = λ j o. refl;
}

pub part_more : (steps : List Step) (readers : List ℕ) (place from to k : ℕ) (g : Guard) (old new : List Guard) → PartTo steps readers place from to
    old new → from ≤ to → to < length new → slice_get readers to ≡ Some k → IsGuard steps place k g
    → PartTo steps readers place from (to + 1) old (set new to g)
part_more steps readers place from to k g old new w late inside here is = record {
  long = length-set new to g ∙ w.long;
  each = λ j q h f t e at. elim (lower_or_last j to t) [
    | inl l ↦ w.each j q h f l e (sym (get_set_other new to j g (λ z. absurd (omega (arith, z, l)))) ∙ at)
    | inr z ↦
        let reader : Some q ≡ Some k = sym e ∙ ap (slice_get readers) z ∙ here in
        let own : q ≡ k = cc in
        let guard : Some h ≡ Some g = sym at ∙ ap (slice_get (set new to g)) z ∙ get_set_same new to g inside in
        let its : h ≡ g = cc in
        subst (λ x. IsGuard steps place x h) (sym own) (subst (IsGuard steps place k) (sym its) is)
  ];
  others = λ j o. get_set_other new to j g (λ z. elim o [ inl l ↦ absurd (omega (arith, l, z, late)) | inr l ↦ absurd (omega (arith, l, z)) ]) ∙
      w.others j (elim o [ inl l ↦ inl l | inr l ↦ inr (omega (arith, l)) ]);
}

-- the parts of places come one after another
rise : (starts readers : List ℕ) (places words : ℕ) → Lists starts readers places words → (p n : ℕ) → p + n ≤ places → slice_index starts p ≤ slice_index starts (p + n)
rise starts readers places words w p zero h = let e : p + 0 ≡ p = omega arith in subst (λ x. slice_index starts p ≤ slice_index starts x) (sym e) (omega arith)
rise starts readers places words w p (suc n) h =
    let a = rise starts readers places words w p n (omega (arith, h)) in
    let b = w.ordered (p + n) (omega (arith, h)) in
    let e : p + n + 1 ≡ p + suc n = omega arith in
    subst (λ x. slice_index starts p ≤ slice_index starts x) e (omega (arith, a, b))

-- the parts of the places before one have their guards
pub record GuardedTo (steps : List Step) (starts readers : List ℕ) (count : ℕ) (guards : List Guard) : Type 0 where
  pub long : length guards ≡ length readers
  pub each : (p j k : ℕ) (g : Guard) → p < count → slice_index starts p ≤ j → j < slice_index starts (p + 1) → slice_get readers j ≡ Some k → slice_get guards j ≡ Some g → IsGuard steps p k g

pub guarded_more : (steps : List Step) (starts readers : List ℕ) (places words count : ℕ) (old new : List Guard) → Lists starts readers places words →
    count < places → GuardedTo steps starts readers count old
    → PartTo steps readers count (slice_index starts count) (slice_index starts (count + 1)) old new → GuardedTo steps starts readers (count + 1) new
guarded_more steps starts readers places words count old new w inside before part = record {
  long = part.long ∙ before.long;
  each = λ p j k g h f t e at. elim (lower_or_last p count h) [
    | inl l ↦
        let n = later p count l in
        let r = rise starts readers places words w (p + 1) n.0 (let a = n.1 in omega (arith, a, inside)) in
        let s = subst (λ x. slice_index starts (p + 1) ≤ slice_index starts x) n.1 r in
        before.each p j k g l f t e (sym (part.others j (inl (omega (arith, t, s)))) ∙ at)
    | inr z ↦
        subst (λ x. IsGuard steps x k g) (sym z)
        (part.each j k g (subst (λ x. slice_index starts x ≤ j) z f) (subst (λ x. j < slice_index starts (x + 1)) z t) e at)
  ];
}
  where
    later : (p q : ℕ) → p < q → (n : ℕ) × (p + 1 + n ≡ q)
    later zero zero h = absurd (omega (arith, h))
    later zero (suc q) h = (q, omega arith)
    later (suc p) zero h = absurd (omega (arith, h))
    later (suc p) (suc q) h = let r = later p q (omega (arith, h)) in (r.0, let a = r.1 in omega (arith, a))
