-- The low bits of sums, differences, products and shifts.
use Rattle.safl_word.proofs.Common.{mod-mod-pow, ones_shr}
use Rattle.std.proofs.Common.{◌≡◌, ℕ, zero, suc, ◌+◌, ◌-◌, ◌*◌, ◌/◌, ◌%◌, ◌^◌, ◌<◌, ◌≤◌, sym, ◌∙◌, ap, subst, arith}
use Rattle.std.proofs.Common.{bit_and, bit_or}
use Rattle.std.proofs.lemmas.Nat.{and_mask, pow_pos, pow-add, shl_whole, or_shifted}
use Rattle.std.proofs.Math.Nat.{add-mul-mod_self_right}

-- the ones of a width
pub greatest_is : (w : ℕ) → w ≤ 128 → (2 ^ 128 - 1) / 2 ^ (128 - w) ≡ 2 ^ w - 1
greatest_is w le =
    let e : 128 - (128 - w) ≡ w = omega arith in
    let o : (2 ^ 128 - 1) / 2 ^ (128 - w) ≡ 2 ^ (128 - (128 - w)) - 1 = ones_shr 128 (128 - w) (omega arith) in
    subst (λ k. (2 ^ 128 - 1) / 2 ^ (128 - w) ≡ 2 ^ k - 1) e o

pub masked : (n m w : ℕ) → m ≡ 2 ^ w - 1 → bit_and n m ≡ n % 2 ^ w
masked n m w e = rw e (and_mask n w)

-- the low bits of what 128 bits hold of a number are its low bits
pub low_of_low : (n w : ℕ) → w ≤ 128 → n % 2 ^ 128 % 2 ^ w ≡ n % 2 ^ w
low_of_low n w le =
    let e : (128 - w) + w ≡ 128 = omega arith in
    subst (λ k. n % 2 ^ k % 2 ^ w ≡ n % 2 ^ w) e (mod-mod-pow n (128 - w) w)

-- a multiple of the modulus more makes no difference
pub apart : (a b k m : ℕ) → b < m → 0 < k → (a + (k * m - b)) % m ≡ (m + a - b) % m
apart a b zero m lt pos = absurd (omega arith)
apart a b (suc k) m lt pos =
    let s : suc k * m ≡ k * m + m = omega arith in
    let e : a + (suc k * m - b) ≡ (m + a - b) + k * m = omega (arith, s) in
    ap (λ n. n % m) e ∙ add-mul-mod_self_right (m + a - b) k m

-- the low bits of a difference modulo 2 to the 128th
pub low_of_difference : (a b w : ℕ) → w ≤ 128 → b < 2 ^ w → (a + (2 ^ 128 - b)) % 2 ^ 128 % 2 ^ w ≡ (2 ^ w + a - b) % 2 ^ w
low_of_difference a b w le lt =
    let s : (128 - w) + w ≡ 128 = omega arith in
    let p : 2 ^ ((128 - w) + w) ≡ 2 ^ (128 - w) * 2 ^ w = pow-add 2 (128 - w) w in
    let q : 2 ^ 128 ≡ 2 ^ (128 - w) * 2 ^ w = subst (λ k. 2 ^ k ≡ 2 ^ (128 - w) * 2 ^ w) s p in
    let r : (a + (2 ^ 128 - b)) % 2 ^ w ≡ (2 ^ w + a - b) % 2 ^ w =
    subst (λ n. (a + (n - b)) % 2 ^ w ≡ (2 ^ w + a - b) % 2 ^ w) (sym q) (apart a b (2 ^ (128 - w)) (2 ^ w) lt (pow_pos (128 - w))) in
    low_of_low (a + (2 ^ 128 - b)) w le ∙ r

-- a left shift loses no bit that the result keeps
pub low_of_shifted : (a b w : ℕ) → w ≤ 128 → (a * 2 ^ b) % 2 ^ 128 % 2 ^ w ≡ (a * 2 ^ b) % 2 ^ w
low_of_shifted a b w le = low_of_low (a * 2 ^ b) w le

-- two words side by side
pub side_by_side : (a b u v : ℕ) → a < 2 ^ u → b < 2 ^ v → u + v ≤ 128 → bit_or ((a * 2 ^ v) % 2 ^ 128) b ≡ a * 2 ^ v + b
side_by_side a b u v la lb le = ap (λ n. bit_or n b) (shl_whole a u v 128 la le) ∙ or_shifted a v b lb
