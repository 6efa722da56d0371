-- The part of a list from a place on.
use Rattle.std.proofs.Common.{◌≡◌, ℕ, zero, suc, ◌+◌, ◌-◌, ◌<◌, List, [], ◌∷◌, length, take, drop, get_or, Some, slice_get, refl, sym, ap, ◌∙◌, arith}
use Rattle.std.proofs.lemmas.Option.{slice_get-get_or}
use Rattle.std.proofs.lemmas.List.{take_rest}
use Rattle.safl_word.proofs.Lists.{get_drop}

take_none : {A : Type 0} (n : ℕ) → take n (drop {A = A} 0 []) ≡ []
take_none zero = refl
take_none (suc n) = refl

drop_length : {A : Type 0} (xs : List A) (k b : ℕ) → k + b < length xs → b < length (drop k xs)
drop_length [] k b h = absurd (omega (arith, h))
drop_length (x ∷ xs) zero b h = omega (arith, h)
drop_length (x ∷ xs) (suc k) b h = drop_length xs k b (omega (arith, h))

module _ {A : Type 0} (xs ys : List A) (k b : ℕ) (same : ys ≡ xs) (h : k + b < length xs) where
  whole : take (length ys - k) (drop k ys) ≡ drop k xs
  whole = ap (λ l. take (length l - k) (drop k l)) same ∙ take_rest xs k

  pub part_length : b < length (take (length ys - k) (drop k ys))
  part_length = let a = ap length whole in let c = drop_length xs k b h in omega (arith, a, c)

  pub part_get : (d : A) → slice_get xs (k + b) ≡ Some (get_or (take (length ys - k) (drop k ys)) b d)
  part_get d = sym (get_drop xs k b) ∙ slice_get-get_or (drop k xs) b d (drop_length xs k b h) ∙ ap (λ l. Some (get_or l b d)) (sym whole)
