-- Lists that grow at their ends.
use Rattle.safl_opt.proofs.Common.{Sig, map_push, numbers, numbers_length, sig_at, take_next}
use Rattle.std.proofs.Common.{◌≡◌, ℕ, zero, suc, ◌+◌, ◌<◌, ◌≤◌, List, [], ◌∷◌, ◌++◌, map, length, take, Some, slice_get, refl, sym, ap, ◌∙◌, arith}

pub mapped_few : {A B : Type 0} (g : A → B) (xs : List A) (i : ℕ) → length (map g (take i xs)) ≤ i
mapped_few g [] zero = omega arith
mapped_few g [] (suc i) = omega arith
mapped_few g (x ∷ xs) zero = omega arith
mapped_few g (x ∷ xs) (suc i) = let h = mapped_few g xs i in omega (arith, h)

sig_get : (xs : List Sig) (i : ℕ) → i < length xs → (x : Sig) × (slice_get xs i ≡ Some x) × (x.0 ≡ sig_at xs i)
sig_get [] i h = absurd (omega (arith, h))
sig_get (x ∷ xs) zero h = (x, refl, refl)
sig_get (x ∷ xs) (suc i) h = sig_get xs i (omega (arith, h))

-- the new number of one more signal
pub numbers_next : (g : ℕ → ℕ) (all : List Sig) (i : ℕ) (xs ys : List Sig) (v : Sig) → i < length all → ys ≡ xs ++ v ∷ [] → v.0 ≡ g (sig_at all i) →
    numbers xs ≡ map g (numbers (take i all)) → numbers ys ≡ map g (numbers (take (i + 1) all))
numbers_next g all i xs ys v lt e q h =
    let x = sig_get all i lt in
    ap numbers e ∙ map_push (λ (s : Sig). s.0) xs v ∙ ap (λ k. numbers xs ++ k ∷ []) (q ∙ ap g (sym x.2)) ∙ ap (λ l. l ++ g x.0.0 ∷ []) h
    ∙ sym (ap (λ l. map g (numbers l)) (take_next all i x.0 x.1) ∙ ap (map g) (map_push (λ (s : Sig). s.0) (take i all) x.0) ∙ map_push g (numbers (take i all)) x.0.0)

numbers_few : (g : ℕ → ℕ) (xs : List Sig) (i : ℕ) → length (map g (numbers (take i xs))) ≤ i
numbers_few g [] zero = omega arith
numbers_few g [] (suc i) = omega arith
numbers_few g (x ∷ xs) zero = omega arith
numbers_few g (x ∷ xs) (suc i) = let h = numbers_few g xs i in omega (arith, h)

pub few_numbers : (g : ℕ → ℕ) (all : List Sig) (i : ℕ) (xs : List Sig) → numbers xs ≡ map g (numbers (take i all)) → length xs ≤ i
few_numbers g all i xs e =
    let a = numbers_few g all i in
    let b = ap length e in
    let c = numbers_length xs in
    omega (arith, a, b, c)
