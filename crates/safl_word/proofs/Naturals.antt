-- Numbers: order and tests.
use Rattle.std.specs.Cmp.{both_ways}
use Rattle.std.proofs.Common.{ap, arith, inl, inr, length, lit<, nat_le, refl, subst, suc, sym, true, zero, ℕ, ◌*◌, ◌+◌, ◌<◌, ◌==◌, ◌^◌, ◌≡◌, ◌≤◌, ◌⊎◌}
use Rattle.std.proofs.lemmas.Bool.{eq-eqb, eqb-true}
use Rattle.std.proofs.lemmas.Bool.Decides.{nat_tests}
use Rattle.std.specs.Fmt.{decimal}
use Rattle.std.proofs.lemmas.Fmt.{length-decimal-le}
use Rattle.std.proofs.Math.Nat.{mul-le-mul_left}
use Rattle.safl_word.specs.Naturals.{work}

pub work_down : (c u d v : ℕ) → d + v ≤ c + u → d < c → work d v < work c u
work_down c u d v le lt =
    omega (arith, lt, mul-le-mul_left (d + v) le, mul-le-mul_left (c + u) le)

pub work_less_of : {m n : ℕ} (u w : ℕ) → m ≡ n → w < work m u → w < work n u
work_less_of u w e h = let P : ℕ → Type 0 = λ k. w < work k u in subst P e h

pub lower_or_last : (s k : ℕ) → s < k + 1 → (s < k) ⊎ (s ≡ k)
lower_or_last zero zero h = inr refl
lower_or_last zero (suc k) h = inl (omega arith)
lower_or_last (suc s) zero h = absurd (omega (arith, h))
lower_or_last (suc s) (suc k) h = elim (lower_or_last s k (omega (arith, h))) [ inl u ↦ inl (omega (arith, u)) | inr u ↦ inr (ap suc u) ]

pub le_or_more : (x y : ℕ) → (x ≤ y) ⊎ (y < x)
le_or_more zero y = inl (omega arith)
le_or_more (suc x) zero = inr (omega arith)
le_or_more (suc x) (suc y) = elim (le_or_more x y) [ inl h ↦ inl (omega (arith, h)) | inr h ↦ inr (omega (arith, h)) ]

pub more_rows : (i n : ℕ) → i * n + n ≡ (i + 1) * n
more_rows i n = grind arith

pub number_short : (n : ℕ) → n < 1000 → length (decimal n) ≤ 3
number_short n h =
    let bound : n < 10 ^ 3 = omega (arith, h) in
    let wide : 1000 < 2 ^ 64 = lit< tt in
    length-decimal-le 3 n (lit< tt) bound (omega arith)

pub below_power : (a b v w : ℕ) → a ≡ b → v ≡ w → b < 2 ^ v → a < 2 ^ w
below_power a b v w e f h = subst (λ x. a < 2 ^ x) f (subst (λ x. x < 2 ^ v) (sym e) h)

pub zero_suc : {A : Type 0} (n : ℕ) → zero ≡ suc n → A
zero_suc n e = absurd (omega (arith, e))

pub lower_same_higher : (x y : ℕ) → (x < y) ⊎ ((x ≡ y) ⊎ (y < x))
lower_same_higher zero zero = inr (inl refl)
lower_same_higher zero (suc y) = inl (omega arith)
lower_same_higher (suc x) zero = inr (inr (omega arith))
lower_same_higher (suc x) (suc y) = elim (lower_same_higher x y) [ inl h ↦ inl (omega (arith, h)) | inr h ↦ elim h [ inl e ↦ inr (inl (ap suc e)) | inr e ↦ inr (inr (omega (arith, e))) ] ]

pub eq_flip : (a b : ℕ) → (a == b) ≡ (b == a)
eq_flip a b = both_ways (a == b) (b == a) (λ e. eq-eqb b a (sym (eqb-true a b e))) (λ e. eq-eqb a b (sym (eqb-true b a e)))

pub short_enough : (n : ℕ) → n ≤ 200 → nat_le n 200 ≡ true
short_enough n h = grind (arith, nat_tests)

pub short_is : (m : ℕ) → nat_le m 200 ≡ true → m ≤ 200
short_is m e = grind (arith, nat_tests)
