-- A list of terms of the code, term by term, as a plain list.
use Rattle.safl_lower.proofs.Common.{hold_calls, holds_calls, shown_term, shown_terms}
use Rattle.std.proofs.Common.{◌≡◌, ℕ, zero, suc, ◌+◌, List, [], ◌∷◌, take, drop, Some, slice_get, Bool, true, false, ◌||◌, ap, ◌∙◌, add-one}
use Rattle.std.proofs.lemmas.Bool.{or_parts, or_right}
use Rattle.safl_term.specs.Terms as plain
use Rattle.safl_term.specs.declared.term.Term.{Term}
use Rattle.safl_lower.proofs.Lists.{end}
use Rattle.safl_lower.proofs.Able.{joined}

take_next : (ts : List Term) (i : ℕ) (x : Term) → slice_get ts i ≡ Some x → shown_terms (take (suc i) ts) ≡ end (shown_terms (take i ts)) (shown_term x)
take_next [] i x e = absurd (cc)
take_next (t ∷ ts) zero x e = let g : t ≡ x = cc in ap (λ (y : Term). plain.Cons (shown_term y) plain.Nil) g
take_next (t ∷ ts) (suc i) x e = ap (plain.Cons (shown_term t)) (take_next ts i x e)

pub forest_more : (ts : List Term) (i : ℕ) (x : Term) → slice_get ts i ≡ Some x → shown_terms (take (i + 1) ts) ≡ end (shown_terms (take i ts)) (shown_term x)
forest_more ts i x e = ap (λ (k : ℕ). shown_terms (take k ts)) (add-one i) ∙ take_next ts i x e

pub forest_at : (ts : List Term) (i : ℕ) (x : Term) → slice_get ts i ≡ Some x → shown_terms ts ≡ joined (shown_terms (take i ts)) (plain.Cons (shown_term x) (shown_terms (drop (suc i) ts)))
forest_at [] i x e = absurd (cc)
forest_at (t ∷ ts) zero x e = let g : t ≡ x = cc in ap (λ (y : Term). plain.Cons (shown_term y) (shown_terms ts)) g
forest_at (t ∷ ts) (suc i) x e = ap (plain.Cons (shown_term t)) (forest_at ts i x e)

-- ---- calls in a list

one_holds : (ts : plain.Terms) (t : plain.Term) (us : plain.Terms) → holds_calls t ≡ true → hold_calls (joined ts (plain.Cons t us)) ≡ true
one_holds plain.Nil t us e = ap (λ (b : Bool). b || hold_calls us) e
one_holds (plain.Cons x ts) t us e = or_right (holds_calls x) (hold_calls (joined ts (plain.Cons t us))) (one_holds ts t us e)

none_hold : (ts : plain.Terms) (t : plain.Term) → hold_calls ts ≡ false → holds_calls t ≡ false → hold_calls (end ts t) ≡ false
none_hold plain.Nil t e f = ap (λ (b : Bool). b || false) f
none_hold (plain.Cons x ts) t e f =
    let h = or_parts (holds_calls x) (hold_calls ts) e in
    ap (λ (b : Bool). b || hold_calls (end ts t)) h.0 ∙ none_hold ts t h.1 f

pub holds_at : (ts : List Term) (i : ℕ) (x : Term) → slice_get ts i ≡ Some x → holds_calls (shown_term x) ≡ true → hold_calls (shown_terms ts) ≡ true
holds_at ts i x e h = ap hold_calls (forest_at ts i x e) ∙ one_holds (shown_terms (take i ts)) (shown_term x) (shown_terms (drop (suc i) ts)) h

pub none_so_far : (ts : List Term) (i : ℕ) (x : Term) → slice_get ts i ≡ Some x → hold_calls (shown_terms (take i ts)) ≡ false → holds_calls
    (shown_term x) ≡ false → hold_calls (shown_terms (take (i + 1) ts)) ≡ false
none_so_far ts i x e h k = ap hold_calls (forest_more ts i x e) ∙ none_hold (shown_terms (take i ts)) (shown_term x) h k
