-- A list of names repeats none exactly where they differ.
use Rattle.safl_typing.proofs.Common.{Differ, bytes_eq, bytes_eq-Decides, fault, list_any, names, repeated}
use Rattle.std.proofs.Common.{◌≡◌, ℕ, zero, suc, List, [], ◌∷◌, map, Some, None, Bool, true, false, refl, sym, ap, ◌∙◌, subst}
use Rattle.std.specs.Prelude.{slice_get, cond, ◌||◌}
use Rattle.std.proofs.lemmas.Bool.{false_from_ne_true}
use Rattle.std.proofs.lemmas.Map.Keys.{any_passes_from_place}
use Rattle.std.proofs.Math.Nat.{suc_inj}
use Rattle.safl_word.specs.declared.fault.Rule.TheVariants as rules
use Rattle.safl_word.proofs.Naturals.{zero_suc}
use Rattle.safl_typing.specs.Rewriting.{Bindings, no_binding, a_binding, Placed, placed}

pub some_none : {A : Type 0} {B : Type 0} (x : B) → Some x ≡ None → A
some_none x e = absurd cc

any_here : {A : Type 0} (p : A → Bool) (x : A) (xs : List A) (b : Bool) → p x ≡ b → (b || list_any p xs) ≡ true
    → (list_any p xs ≡ true → (i : ℕ) × (y : A) × (slice_get xs i ≡ Some y) × (p y ≡ true))
    → (i : ℕ) × (y : A) × (slice_get (x ∷ xs) i ≡ Some y) × (p y ≡ true)
any_here p x xs true q e rest = (0, x, refl, q)
any_here p x xs false q e rest = let z = rest e in (suc z.0, z.1, z.2, z.3)

pub any_at : {A : Type 0} (p : A → Bool) (xs : List A) → list_any p xs ≡ true → (i : ℕ) × (x : A) × (slice_get xs i ≡ Some x) × (p x ≡ true)
any_at p [] e = absurd cc
any_at p (x ∷ xs) e = any_here p x xs (p x) refl e (λ g. any_at p xs g)

-- no name of the one list is in the other
abbrev pub Apart : List (List ℕ) → List (List ℕ) → Type 0
Apart xs ys = (i j : ℕ) (name : List ℕ) → slice_get xs i ≡ Some name → slice_get ys j ≡ Some name → ⊥

abbrev pub in_order : List Placed → List (List ℕ)
in_order xs = map (λ x. x.name) xs

pub differ_rest : (x : List ℕ) (xs : List (List ℕ)) → Differ (x ∷ xs) → Differ xs
differ_rest x xs d = λ i j name p q. suc_inj (d (suc i) (suc j) name p q)

pub apart_more : (x : List ℕ) (seen xs : List (List ℕ)) → Differ (x ∷ xs) → Apart seen (x ∷ xs) → Apart (x ∷ seen) xs
apart_more x seen xs d a zero j name p q = zero_suc j (d zero (suc j) name p q)
apart_more x seen xs d a (suc i) j name p q = a i (suc j) name p q

pub unseen : (x : List ℕ) (seen xs : List (List ℕ)) → Apart seen (x ∷ xs) → list_any (bytes_eq x) seen ≡ false
unseen x seen xs a = false_from_ne_true _ (λ e.
    let z = any_at (bytes_eq x) seen e in
    a z.0 0 z.1 z.2 (ap (λ y. Some y) ((bytes_eq-Decides x z.1).0 z.3)))

pub differ_repeat : (seen : List (List ℕ)) (xs : List Placed) → Differ (in_order xs) → Apart seen (in_order xs) → repeated seen xs ≡ None
differ_repeat seen [] d a = refl
differ_repeat seen (x ∷ xs) d a = rw (unseen x.name seen (in_order xs) a) (differ_repeat (x.name ∷ seen) xs (differ_rest x.name (in_order xs) d) (apart_more x.name seen (in_order xs) d a))

pub not_seen : (x : List ℕ) (seen : List (List ℕ)) (i : ℕ) → list_any (bytes_eq x) seen ≡ false → slice_get seen i ≡ Some x → ⊥
not_seen x seen i n e = let z : list_any (bytes_eq x) seen ≡ true = any_passes_from_place (bytes_eq x) seen i x e ((bytes_eq-Decides x x).1 refl) in absurd cc

pub differ_first : (x : List ℕ) (xs : List (List ℕ)) → Differ xs → ((j : ℕ) → slice_get xs j ≡ Some x → ⊥) → Differ (x ∷ xs)
differ_first x xs d n zero zero name p q = refl
differ_first x xs d n zero (suc j) name p q = absurd (n j (q ∙ sym p))
differ_first x xs d n (suc i) zero name p q = absurd (n i (p ∙ sym q))
differ_first x xs d n (suc i) (suc j) name p q = ap (λ z. suc z) (d i j name p q)

pub apart_rest : (x : List ℕ) (seen xs : List (List ℕ)) → list_any (bytes_eq x) seen ≡ false → Apart (x ∷ seen) xs → Apart seen (x ∷ xs)
apart_rest x seen xs q a i zero name g h = not_seen x seen i q (g ∙ sym h)
apart_rest x seen xs q a i (suc j) name g h = a (suc i) j name g h

repeat_here : (x : Placed) (seen : List (List ℕ)) (xs : List Placed) (b : Bool) → list_any (bytes_eq x.name) seen ≡ b → cond b (Some (fault rules.E07 x.place)) (repeated (x.name ∷ seen) xs) ≡ None
    → (repeated (x.name ∷ seen) xs ≡ None → Differ (in_order xs) × Apart (x.name ∷ seen) (in_order xs))
    → Differ (in_order (x ∷ xs)) × Apart seen (in_order (x ∷ xs))
repeat_here x seen xs true q e rest = some_none _ e
repeat_here x seen xs false q e rest =
    let r = rest e in
    (differ_first x.name (in_order xs) r.0 (λ j g. r.1 0 j x.name refl g), apart_rest x.name seen (in_order xs) q r.1)

pub repeat_differ : (seen : List (List ℕ)) (xs : List Placed) → repeated seen xs ≡ None → Differ (in_order xs) × Apart seen (in_order xs)
repeat_differ seen [] e = ((λ i j name p q. absurd cc), λ i j name p q. absurd cc)
repeat_differ seen (x ∷ xs) e = repeat_here x seen xs (list_any (bytes_eq x.name) seen) refl e (λ g. repeat_differ (x.name ∷ seen) xs g)

pub names_placed : (bs : Bindings) → names bs ≡ in_order (placed bs)
names_placed no_binding = refl
names_placed (a_binding p x w e bs) = ap (λ l. x ∷ l) (names_placed bs)

pub bound_differ : (bs : Bindings) → Differ (names bs) → repeated [] (placed bs) ≡ None
bound_differ bs d = differ_repeat [] (placed bs) (subst Differ (names_placed bs) d) (λ i j name p q. absurd cc)

pub differ_bound : (bs : Bindings) → repeated [] (placed bs) ≡ None → Differ (names bs)
differ_bound bs e = subst Differ (sym (names_placed bs)) (repeat_differ [] (placed bs) e).0
