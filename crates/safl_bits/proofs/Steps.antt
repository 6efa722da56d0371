-- Steps of sums, products and shifts, over plain numbers.
use Rattle.safl_bits.proofs.Common.{bit_of, nat_tests}
use Rattle.std.proofs.Common.{◌≡◌, ℕ, ◌+◌, ◌-◌, ◌*◌, ◌/◌, ◌%◌, ◌^◌, ◌<◌, Bool, true, false, not, ◌&&◌, ◌||◌, cond, nat_le, sym, ap, ◌∙◌, arith}
use Rattle.std.proofs.Math.Nat.{add-mul-mod_self_left, mod-eq_of_lt, mod-mod, add-mod}
use Rattle.std.proofs.lemmas.Nat.{pow-add, shr-shr, mul-mod_first}

-- what is left of a sum below 2^w when its carry goes
pub low_of : (s m c t : ℕ) → s + m * c ≡ t → s < m → s ≡ t % m
low_of s m c t e l = sym (mod-eq_of_lt l) ∙ sym (add-mul-mod_self_left s m c) ∙ ap (λ n. n % m) e

-- one place of a sum: p is 2 to its number
pub sum_step : (p a b c0 s c x y z d : ℕ) → s + p * c ≡ a + b + c0 → z + 2 * d ≡ x + y + c → s + p * z + (2 * p) * d ≡ (a + p * x) + (b + p * y) + c0
sum_step p a b c0 s c x y z d e f =
    let g : p * (z + 2 * d) ≡ p * (x + y + c) = ap (λ n. p * n) f in
    let h : p * (z + 2 * d) ≡ p * z + 2 * p * d = grind arith in
    let k : p * (x + y + c) ≡ p * x + p * y + p * c = grind arith in
    omega (arith, e, g, h, k)

-- whether a number is at least another, by the highest bits and those below
pub covers_step : (p a b : ℕ) (f x y : Bool) → a < p → b < p → f ≡ nat_le b a → (x && not y || ((x || not y) && f)) ≡ nat_le (b + p * bit_of y) (a + p * bit_of x)
covers_step p a b true true true l k e = grind (arith, nat_tests)
covers_step p a b true true false l k e = grind (arith, nat_tests)
covers_step p a b true false true l k e = grind (arith, nat_tests)
covers_step p a b true false false l k e = grind (arith, nat_tests)
covers_step p a b false true true l k e = grind (arith, nat_tests)
covers_step p a b false true false l k e = grind (arith, nat_tests)
covers_step p a b false false true l k e = grind (arith, nat_tests)
covers_step p a b false false false l k e = grind (arith, nat_tests)

-- a difference is the low bits of a sum with the complement
pub difference_is : (s m a b nb c : ℕ) → s + m * c ≡ a + nb + 1 → nb + b + 1 ≡ m → s < m → s ≡ (m + a - b) % m
difference_is s m a b nb c e f l = low_of s m c (m + a - b) (omega (arith, e, f)) l

-- one row of a product: x is the row's bit and p is 2 to its number
pub product_step : (m a b p r q t : ℕ) (x : Bool) → r ≡ (a * b) % m → q ≡ cond x ((a * p) % m) 0 → t ≡ (r + q) % m → t ≡ (a * (b + p * bit_of x)) % m
product_step m a b p r q t true e f g =
    let h : a * (b + p * 1) ≡ a * b + a * p = grind arith in
    g ∙ ap (λ n. (n + q) % m) e ∙ ap (λ n. ((a * b) % m + n) % m) f ∙ sym (add-mod (a * b) (a * p) m) ∙ ap (λ n. n % m) (sym h)
product_step m a b p r q t false e f g =
    let h : a * (b + p * 0) ≡ a * b = grind arith in
    let k : r + q ≡ (a * b) % m = omega (arith, e, f) in
    g ∙ ap (λ n. n % m) k ∙ mod-mod (a * b) m ∙ ap (λ n. n % m) (sym h)

-- one stage of a shift by s, where the amount's bit is x
pub left_step : (m a t s r q : ℕ) (x : Bool) → r ≡ (a * 2 ^ t) % m → q ≡ cond x ((r * 2 ^ s) % m) r → q ≡ (a * 2 ^ (t + s * bit_of x)) % m
left_step m a t s r q true e f =
    let h : a * 2 ^ t * 2 ^ s ≡ a * 2 ^ (t + s * 1) = let k = pow-add 2 t s in let z : t + s * 1 ≡ t + s = omega arith in rw z (rw k (grind arith)) in
    f ∙ ap (λ n. (n * 2 ^ s) % m) e ∙ mul-mod_first (a * 2 ^ t) (2 ^ s) m ∙ ap (λ n. n % m) h
left_step m a t s r q false e f = f ∙ e ∙ ap (λ k. (a * 2 ^ k) % m) (let z : t ≡ t + s * 0 = omega arith in z)

pub right_step : (a t s r q : ℕ) (x : Bool) → r ≡ a / 2 ^ t → q ≡ cond x (r / 2 ^ s) r → q ≡ a / 2 ^ (t + s * bit_of x)
right_step a t s r q true e f = f ∙ ap (λ n. n / 2 ^ s) e ∙ shr-shr a t s ∙ ap (λ k. a / 2 ^ k) (let z : t + s ≡ t + s * 1 = omega arith in z)
right_step a t s r q false e f = f ∙ e ∙ ap (λ k. a / 2 ^ k) (let z : t ≡ t + s * 0 = omega arith in z)
