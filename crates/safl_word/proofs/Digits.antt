-- Numbers of few digits.
use Rattle.safl_word.proofs.Common.{le-leb, nat_tests}
use Rattle.std.proofs.Common.{◌≡◌, ℕ, suc, ◌+◌, ◌-◌, ◌*◌, ◌^◌, ◌<◌, ◌≤◌, true, refl, ap, ◌∙◌, arith, add-one}
use Rattle.std.proofs.Math.Nat.{pow-le-pow_right, pow-succ'}
use Rattle.std.specs.Char.{is_ascii_digit}
use Rattle.safl_word.specs.Numerals.{digit, is_digit}

pub digit_is : (c : ℕ) → c ≤ 57 → digit c ≡ c - 48
digit_is c high = rw (le-leb c 57 high) refl

-- what `is_ascii_digit` tells
pub digit_range : (c : ℕ) → is_ascii_digit c ≡ true → (48 ≤ c) × (c ≤ 57)
digit_range c h = grind (arith, nat_tests)

pub digit_passes : (c : ℕ) → 48 ≤ c → c ≤ 57 → is_digit 10 c ≡ true
digit_passes c low high =
    let small : c - 48 < 10 = omega (arith, high) in
    rw (le-leb 48 c low, le-leb c 57 high, le-leb (suc (c - 48)) 10 small) refl

pub next_power : (i n d : ℕ) → n < 10 ^ i → d < 10 → 10 * n + d < 10 ^ (i + 1)
next_power i n d h small =
    let e : 10 ^ (i + 1) ≡ 10 * 10 ^ i = ap (λ k. 10 ^ k) (add-one i) ∙ pow-succ' 10 i in
    omega (arith, h, small, e)

-- there is room for a further digit
pub digit_fits : (i n d : ℕ) → i < 19 → n < 10 ^ i → d < 10 → 10 * n + d < 2 ^ 64
digit_fits i n d h small last =
    let a = next_power i n d small last in
    let b : 10 ^ (i + 1) ≤ 10 ^ 19 = pow-le-pow_right {n = 10} (omega arith) {i = i + 1} {j = 19} (omega (arith, h)) in
    omega (arith, a, b)
