-- The low bits of sums, differences, products and shifts of 64 bits.
use Rattle.safl_word.proofs.Common.{mod-mod-pow, ones_shr}
use Rattle.std.proofs.Common.{◌≡◌, ℕ, ◌+◌, ◌-◌, ◌*◌, ◌/◌, ◌%◌, ◌^◌, ◌<◌, ◌≤◌, sym, ◌∙◌, ap, subst, arith}
use Rattle.std.proofs.Common.{bit_or}
use Rattle.std.proofs.lemmas.Nat.{pow_pos, pow-add, shl_whole, or_shifted}
use Rattle.safl_word.proofs.Arith.{apart}

-- the ones of a width
pub greatest_is : (w : ℕ) → w ≤ 64 → (2 ^ 64 - 1) / 2 ^ (64 - w) ≡ 2 ^ w - 1
greatest_is w le =
    let e : 64 - (64 - w) ≡ w = omega arith in
    let o : (2 ^ 64 - 1) / 2 ^ (64 - w) ≡ 2 ^ (64 - (64 - w)) - 1 = ones_shr 64 (64 - w) (omega arith) in
    subst (λ k. (2 ^ 64 - 1) / 2 ^ (64 - w) ≡ 2 ^ k - 1) e o

-- the low bits of what 64 bits hold of a number are its low bits
pub low_of_low : (n w : ℕ) → w ≤ 64 → n % 2 ^ 64 % 2 ^ w ≡ n % 2 ^ w
low_of_low n w le =
    let e : (64 - w) + w ≡ 64 = omega arith in
    subst (λ k. n % 2 ^ k % 2 ^ w ≡ n % 2 ^ w) e (mod-mod-pow n (64 - w) w)

-- the low bits of a difference modulo 2 to the 64th
pub low_of_difference : (a b w : ℕ) → w ≤ 64 → b < 2 ^ w → (a + (2 ^ 64 - b)) % 2 ^ 64 % 2 ^ w ≡ (2 ^ w + a - b) % 2 ^ w
low_of_difference a b w le lt =
    let s : (64 - w) + w ≡ 64 = omega arith in
    let p : 2 ^ ((64 - w) + w) ≡ 2 ^ (64 - w) * 2 ^ w = pow-add 2 (64 - w) w in
    let q : 2 ^ 64 ≡ 2 ^ (64 - w) * 2 ^ w = subst (λ k. 2 ^ k ≡ 2 ^ (64 - w) * 2 ^ w) s p in
    let r : (a + (2 ^ 64 - b)) % 2 ^ w ≡ (2 ^ w + a - b) % 2 ^ w =
    subst (λ n. (a + (n - b)) % 2 ^ w ≡ (2 ^ w + a - b) % 2 ^ w) (sym q) (apart a b (2 ^ (64 - w)) (2 ^ w) lt (pow_pos (64 - w))) in
    low_of_low (a + (2 ^ 64 - b)) w le ∙ r

-- a left shift loses no bit that the result keeps
pub low_of_shifted : (a b w : ℕ) → w ≤ 64 → (a * 2 ^ b) % 2 ^ 64 % 2 ^ w ≡ (a * 2 ^ b) % 2 ^ w
low_of_shifted a b w le = low_of_low (a * 2 ^ b) w le

-- two words side by side
pub side_by_side : (a b u v : ℕ) → a < 2 ^ u → b < 2 ^ v → u + v ≤ 64 → bit_or ((a * 2 ^ v) % 2 ^ 64) b ≡ a * 2 ^ v + b
side_by_side a b u v la lb le = ap (λ n. bit_or n b) (shl_whole a u v 64 la le) ∙ or_shifted a v b lb
