-- Lists that are gathered by number.
use Rattle.safl_aig.proofs.Common.{gathered, summed}
use Rattle.std.proofs.Common.{◌≡◌, ◌⊎◌, inl, inr, ℕ, zero, suc, ◌+◌, ◌<◌, List, ◌++◌, map, length, refl, sym, ap, ◌∙◌, arith, length-append}
use Rattle.std.proofs.lemmas.List.{map-append}
use Rattle.safl_word.proofs.Lists.{append_parts}

pub gathered_same : {A : Type 0} (f g : ℕ → List A) (k : ℕ) → ((s : ℕ) → s < k → f s ≡ g s) → gathered f k ≡ gathered g k
gathered_same f g zero h = refl
gathered_same f g (suc k) h = λ i. gathered_same f g k (λ s l. h s (omega (arith, l))) i ++ h k (omega arith) i

pub gathered_map : {A B : Type 0} (t : A → B) (f : ℕ → List A) (k : ℕ) → map t (gathered f k) ≡ gathered (λ s. map t (f s)) k
gathered_map t f zero = refl
gathered_map t f (suc k) = map-append t (gathered f k) (f k) ∙ ap (λ l. l ++ map t (f k)) (gathered_map t f k)

pub gathered_long : {A : Type 0} (f : ℕ → List A) (k : ℕ) → length (gathered f k) ≡ summed (λ s. length (f s)) k
gathered_long f zero = refl
gathered_long f (suc k) = length-append (gathered f k) (f k) ∙ ap (λ n. n + length (f k)) (gathered_long f k)

pub summed_same : (f g : ℕ → ℕ) (k : ℕ) → ((s : ℕ) → s < k → f s ≡ g s) → summed f k ≡ summed g k
summed_same f g zero h = refl
summed_same f g (suc k) h = λ i. summed_same f g k (λ s l. h s (omega (arith, l))) i + h k (omega arith) i

pub gathered_split : {A : Type 0} (f g : ℕ → List A) (k : ℕ) → ((s : ℕ) → s < k → length (f s) ≡ length (g s)) → gathered f k ≡ gathered g k → (s : ℕ) → s < k → f s ≡ g s
gathered_split f g zero h e s l = absurd (omega (arith, l))
gathered_split f g (suc k) h e s l =
    let below = λ (t : ℕ) (u : t < k). h t (omega (arith, u)) in
    let long = gathered_long f k ∙ summed_same (λ t. length (f t)) (λ t. length (g t)) k below ∙ sym (gathered_long g k) in
    let p = append_parts (gathered f k) (f k) (gathered g k) (g k) long e in
    elim (last s k l) [ inl u ↦ gathered_split f g k below p.0 s u | inr u ↦ ap f u ∙ p.1 ∙ sym (ap g u) ]
  where
    last : (s k : ℕ) → s < suc k → (s < k) ⊎ (s ≡ k)
    last zero zero h = inr refl
    last zero (suc k) h = inl (omega arith)
    last (suc s) zero h = absurd (omega (arith, h))
    last (suc s) (suc k) h = elim (last s k (omega (arith, h))) [ inl u ↦ inl (omega (arith, u)) | inr u ↦ inr (ap suc u) ]
