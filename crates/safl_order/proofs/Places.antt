-- Places of lists that are written, grow or are reversed.
use Rattle.safl_order.proofs.Common.{Frame, Mark}
use Rattle.std.proofs.Common.{◌≡◌, ℕ, zero, suc, ◌+◌, ◌-◌, ◌≤◌, List, [], ◌∷◌, ◌++◌, length, reverse, get_or, set, take, Some, None, ◌⊎◌, inl, inr, slice_get, refl, sym, ap, ◌∙◌, arith}
use Rattle.std.proofs.lemmas.List.{length-reverse, get_or-reverse}
use Rattle.std.proofs.lemmas.Option.{slice_get-get_or, slice_get_within}
use Rattle.safl_order.specs.Walk.{one_unseen, unseen, stack_work}

pub set_cases : {A : Type 0} (xs : List A) (t : ℕ) (x : A) (s : ℕ) (y : A) → slice_get (set xs t x) s ≡ Some y → ((s ≡ t) × (y ≡ x)) ⊎ ((¬ (s ≡ t)) × (slice_get xs s ≡ Some y))
set_cases [] t x s y e = absurd (cc)
set_cases (a ∷ xs) zero x zero y e = inl (refl, cc)
set_cases (a ∷ xs) zero x (suc s) y e = inr ((λ q. absurd (omega (arith, q))), e)
set_cases (a ∷ xs) (suc t) x zero y e = inr ((λ q. absurd (omega (arith, q))), e)
set_cases (a ∷ xs) (suc t) x (suc s) y e = elim (set_cases xs t x s y e) [ inl h ↦ inl (ap suc h.0, h.1) | inr h ↦ inr ((λ q. h.0 (omega (arith, q))), h.1) ]

pub set_other : {A : Type 0} (xs : List A) (t : ℕ) (x : A) (s : ℕ) (y : A) → ¬ (s ≡ t) → slice_get xs s ≡ Some y → slice_get (set xs t x) s ≡ Some y
set_other [] t x s y n e = absurd (cc)
set_other (a ∷ xs) zero x zero y n e = absurd (n refl)
set_other (a ∷ xs) zero x (suc s) y n e = e
set_other (a ∷ xs) (suc t) x zero y n e = e
set_other (a ∷ xs) (suc t) x (suc s) y n e = set_other xs t x s y (λ q. n (ap suc q)) e

pub set_here : {A : Type 0} (xs : List A) (t : ℕ) (x y : A) → slice_get xs t ≡ Some y → slice_get (set xs t x) t ≡ Some x
set_here [] t x y e = absurd (cc)
set_here (a ∷ xs) zero x y e = refl
set_here (a ∷ xs) (suc t) x y e = set_here xs t x y e

pub past_end : {A : Type 0} (xs : List A) (s : ℕ) → slice_get xs s ≡ None → length xs ≤ s
past_end [] s e = omega arith
past_end (x ∷ xs) zero e = absurd (cc)
past_end (x ∷ xs) (suc s) e = let h = past_end xs s e in omega (arith, h)

pub unseen_set : (ms : List Mark) (t : ℕ) (x y : Mark) → slice_get ms t ≡ Some y → unseen (set ms t x) + one_unseen y ≡ unseen ms + one_unseen x
unseen_set [] t x y e = absurd (cc)
unseen_set (m ∷ ms) zero x y e =
    let q : m ≡ y = cc in
    let r = ap one_unseen q in
    omega (arith, r)
unseen_set (m ∷ ms) (suc t) x y e = let q = unseen_set ms t x y e in omega (arith, q)

pub stack_push : (fs : List Frame) (f : Frame) → stack_work (fs ++ f ∷ []) ≡ stack_work fs + (4 - f.next)
stack_push [] f = omega arith
stack_push (g ∷ fs) f = let e = stack_push fs f in omega (arith, e)

pub stack_set : (fs : List Frame) (k : ℕ) (f g : Frame) → slice_get fs k ≡ Some f → stack_work (set fs k g) + (4 - f.next) ≡ stack_work fs + (4 - g.next)
stack_set [] k f g e = absurd (cc)
stack_set (h ∷ fs) zero f g e =
    let q : h ≡ f = cc in
    let r = ap (λ (x : Frame). 4 - x.next) q in
    omega (arith, r)
stack_set (h ∷ fs) (suc k) f g e = let q = stack_set fs k f g e in omega (arith, q)

pub split_last : {A : Type 0} (xs : List A) (k : ℕ) (x : A) → slice_get xs k ≡ Some x → suc k ≡ length xs → xs ≡ take k xs ++ x ∷ []
split_last [] k x e h = absurd (cc)
split_last (a ∷ []) zero x e h = let q : a ≡ x = cc in ap (λ y. y ∷ []) q
split_last (a ∷ (b ∷ xs)) zero x e h = absurd (omega (arith, h))
split_last (a ∷ xs) (suc k) x e h = ap (λ l. a ∷ l) (split_last xs k x e (omega (arith, h)))

-- a list that is reversed has at i what it had as far from its end
pub get_reverse : {A : Type 0} (xs : List A) (i j : ℕ) → suc (i + j) ≡ length xs → slice_get (reverse xs) i ≡ slice_get xs j
get_reverse [] i j h = absurd (omega (arith, h))
get_reverse (x ∷ xs) i j h =
    let all = x ∷ xs in
    let long = length-reverse all in
    slice_get-get_or (reverse all) i x (omega (arith, long, h)) ∙ ap Some
    (get_or-reverse all i x (omega (arith, h)) ∙ ap (λ k. get_or all k x) (let e : length all - 1 - i ≡ j = omega (arith, h) in e))
    ∙ sym (slice_get-get_or all j x (omega (arith, h)))

-- what stands in a reversed list stands in the list, and the other way round
pub from_reverse : {A : Type 0} (xs : List A) (i : ℕ) (y : A) → slice_get (reverse xs) i ≡ Some y → (j : ℕ) × (slice_get xs j ≡ Some y)
from_reverse xs i y e =
    let a = slice_get_within (reverse xs) i y e in
    let b = length-reverse xs in
    let j = length xs - 1 - i in
    (j, sym (get_reverse xs i j (omega (arith, a, b))) ∙ e)

pub to_reverse : {A : Type 0} (xs : List A) (j : ℕ) (y : A) → slice_get xs j ≡ Some y → (i : ℕ) × (slice_get (reverse xs) i ≡ Some y)
to_reverse xs j y e =
    let a = slice_get_within xs j y e in
    let i = length xs - 1 - j in
    (i, get_reverse xs i j (omega (arith, a)) ∙ e)
