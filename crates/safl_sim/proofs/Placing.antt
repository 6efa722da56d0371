-- The states of registers, by register and by place.
use Rattle.std.proofs.Common.{◌≡◌, ℕ, zero, suc, ◌<◌, List, [], ◌∷◌, length, set, Some, slice_get, slice_index, refl, sym, ap, ◌∙◌, arith}
use Rattle.std.specs.Prelude.{replicate}
use Rattle.std.proofs.lemmas.List.{length-set, set-set}
use Rattle.safl_sim.specs.declared.step.Register.{Register}
use Rattle.safl_sim.specs.States.{placed, AreAt, AreOnce}
use Rattle.safl_sim.proofs.Written.{index_here, index_other}

zeros_long : (n : ℕ) → length {A = ℕ} (replicate n 0) ≡ n
zeros_long zero = refl
zeros_long (suc n) = ap suc (zeros_long n)

zero_at : (n k : ℕ) → slice_index (replicate n 0) k ≡ 0
zero_at zero k = refl
zero_at (suc n) zero = refl
zero_at (suc n) (suc k) = zero_at n k

set_swap : (xs : List ℕ) (s t x y : ℕ) → ¬ (s ≡ t) → set (set xs s x) t y ≡ set (set xs t y) s x
set_swap [] s t x y n = refl
set_swap (z ∷ xs) zero zero x y n = absurd (n refl)
set_swap (z ∷ xs) zero (suc t) x y n = refl
set_swap (z ∷ xs) (suc s) zero x y n = refl
set_swap (z ∷ xs) (suc s) (suc t) x y n = ap (λ l. z ∷ l) (set_swap xs s t x y (λ e. n (ap suc e)))

pub placed_long : (count : ℕ) (regs : List Register) (xs : List ℕ) → length (placed count regs xs) ≡ count
placed_long count [] xs = zeros_long count
placed_long count (r ∷ rs) [] = zeros_long count
placed_long count (r ∷ rs) (x ∷ xs) = length-set (placed count rs xs) r.signal.0 x ∙ placed_long count rs xs

-- where no register stands
pub placed_rest : (count : ℕ) (regs : List Register) (xs : List ℕ) (t : ℕ) → ((k : ℕ) (r : Register) → slice_get regs k ≡ Some r → ¬ (r.signal.0 ≡ t)) → slice_index (placed count regs xs) t ≡ 0
placed_rest count [] xs t away = zero_at count t
placed_rest count (r ∷ rs) [] t away = zero_at count t
placed_rest count (r ∷ rs) (x ∷ xs) t away =
    index_other (placed count rs xs) r.signal.0 x t (λ e. away 0 r refl (sym e)) ∙ placed_rest count rs xs t (λ k q e. away (suc k) q e)

once_more : (r : Register) (rs : List Register) → AreOnce (r ∷ rs) → AreOnce rs
once_more r rs once i j p q e f z = let a = once (suc i) (suc j) p q e f z in omega (arith, a)

-- at the place of a register
pub placed_at : (count : ℕ) (regs : List Register) (xs : List ℕ) → AreOnce regs →
    ((k : ℕ) (r : Register) → slice_get regs k ≡ Some r → r.signal.0 < count) → length xs ≡ length regs → (k : ℕ) (r : Register) → slice_get regs k ≡ Some r
    → slice_index (placed count regs xs) r.signal.0 ≡ slice_index xs k
placed_at count [] xs once known long k r e = absurd (cc)
placed_at count (q ∷ rs) [] once known long k r e = absurd (omega (arith, long))
placed_at count (q ∷ rs) (x ∷ xs) once known long zero r e =
    let same : q ≡ r = cc in
    ap (λ (y : Register). slice_index (set (placed count rs xs) q.signal.0 x) y.signal.0) (sym same)
    ∙ index_here (placed count rs xs) q.signal.0 x (let a = known 0 q refl in let b = placed_long count rs xs in omega (arith, a, b))
placed_at count (q ∷ rs) (x ∷ xs) once known long (suc k) r e =
    index_other (placed count rs xs) q.signal.0 x r.signal.0 (λ z. absurd (let a = once (suc k) 0 r q e refl z in omega (arith, a)))
    ∙ placed_at count rs xs (once_more q rs once) (λ i p f. known (suc i) p f) (omega (arith, long)) k r e

pub all_placed : (count : ℕ) (regs : List Register) (xs : List ℕ) → AreOnce regs →
    ((k : ℕ) (r : Register) → slice_get regs k ≡ Some r → r.signal.0 < count) → length xs ≡ length regs → AreAt regs xs (placed count regs xs)
all_placed count regs xs once known long = record { long = long; each = placed_at count regs xs once known long }

-- a register with a new number
pub placed_set : (count : ℕ) (regs : List Register) (xs : List ℕ) (k : ℕ) (r : Register) (x : ℕ) → AreOnce regs → length xs ≡ length regs → slice_get
    regs k ≡ Some r → placed count regs (set xs k x) ≡ set (placed count regs xs) r.signal.0 x
placed_set count [] xs k r x once long e = absurd (cc)
placed_set count (q ∷ rs) [] k r x once long e = absurd (omega (arith, long))
placed_set count (q ∷ rs) (y ∷ xs) zero r x once long e =
    let same : q ≡ r = cc in
    sym (set-set (placed count rs xs) q.signal.0 y x) ∙ ap (λ (p : Register). set (set (placed count rs xs) q.signal.0 y) p.signal.0 x) same
placed_set count (q ∷ rs) (y ∷ xs) (suc k) r x once long e =
    ap (λ l. set l q.signal.0 y) (placed_set count rs xs k r x (once_more q rs once) (omega (arith, long)) e)
    ∙ set_swap (placed count rs xs) r.signal.0 q.signal.0 x y (λ z. absurd (let a = once (suc k) 0 r q e refl z in omega (arith, a)))

-- registers of one place are one, so they have one next signal
pub next_once : (regs : List Register) → AreOnce regs → (i j : ℕ) (r q : Register) → slice_get regs i ≡ Some r → slice_get regs j ≡ Some q → r.signal.0 ≡ q.signal.0 → r.next.0 ≡ q.next.0
next_once regs once i j r q e f z =
    let same : Some r ≡ Some q = sym e ∙ ap (slice_get regs) (once i j r q e f z) ∙ f in
    let one : r ≡ q = cc in
    ap (λ (x : Register). x.next.0) one
