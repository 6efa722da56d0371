-- What is made of the elements of a list, one more at a time: what was made and what the rest makes are the whole.
use Rattle.std.proofs.Common.{◌≡◌, ℕ, zero, suc, ◌+◌, ◌<◌, ◌≤◌, List, [], ◌∷◌, ◌++◌, length, drop, get_or, sym, ap, ◌∙◌, append_assoc, add-one, arith}
use Rattle.std.proofs.lemmas.List.{append-nil, drop_all}

pub drop_or : {A : Type 0} (xs : List A) (i : ℕ) (x : A) → i < length xs → x ≡ get_or xs i x → drop i xs ≡ x ∷ drop (suc i) xs
drop_or [] i x within at = absurd (omega (arith, within))
drop_or (y ∷ ys) zero x within at = ap (λ z. z ∷ ys) (sym at)
drop_or (y ∷ ys) (suc i) x within at = drop_or ys i x (omega (arith, within)) at

module _ {A : Type 0} {B : Type 0} (rest : ℕ → List A → List B) (piece : ℕ → A → List B) (nothing : (i : ℕ) → rest i [] ≡ [])
    (more : (i : ℕ) (x : A) (xs : List A) → rest i (x ∷ xs) ≡ piece i x ++ rest (suc i) xs) where
  pub rest_more : (xs : List A) (i : ℕ) (x : A) (out now whole : List B) → drop i xs ≡ x ∷ drop (suc i) xs → out ++ rest i (drop i xs) ≡ whole → now ≡
      out ++ piece i x → now ++ rest (i + 1) (drop (i + 1) xs) ≡ whole
  rest_more xs i x out now whole at before after =
      ap (λ k. now ++ rest k (drop k xs)) (add-one i)
      ∙ ap (λ l. l ++ rest (suc i) (drop (suc i) xs)) after
      ∙ append_assoc out (piece i x) (rest (suc i) (drop (suc i) xs))
      ∙ ap (λ l. out ++ l) (sym (more i x (drop (suc i) xs)))
      ∙ ap (λ l. out ++ rest i l) (sym at)
      ∙ before

  pub rest_none : (xs : List A) (i : ℕ) (out whole : List B) → length xs ≤ i → out ++ rest i (drop i xs) ≡ whole → out ≡ whole
  rest_none xs i out whole all before = sym (append-nil out) ∙ ap (λ l. out ++ l) (sym (nothing i)) ∙ ap (λ l. out ++ rest i l) (sym (drop_all i xs all)) ∙ before
