-- Numbers in two halves.
use Rattle.std.proofs.Common.{◌≡◌, ℕ, zero, suc, ◌+◌, ◌*◌, ◌/◌, ◌%◌, ◌<◌, ◌≤◌, ◌^◌, List, [], ◌∷◌, map, length, set, slice_index, refl, ap, ◌∙◌, arith}
use Rattle.safl_word.specs.Halves.{low_half, high_half, joined_halves}

-- past the end of a list
pub index_past : (xs : List ℕ) (i : ℕ) → length xs ≤ i → slice_index xs i ≡ 0
index_past [] i h = refl
index_past (x ∷ xs) zero h = absurd (omega (arith, h))
index_past (x ∷ xs) (suc i) h = index_past xs i (omega (arith, h))

pub joined_length : (ls hs : List ℕ) → length ls ≡ length hs → length (joined_halves ls hs) ≡ length ls
joined_length [] hs e = refl
joined_length (l ∷ ls) [] e = absurd (omega (arith, e))
joined_length (l ∷ ls) (h ∷ hs) e = ap suc (joined_length ls hs (omega (arith, e)))

pub joined_index : (ls hs : List ℕ) (i : ℕ) → length ls ≡ length hs → i < length ls → slice_index (joined_halves ls hs) i ≡ slice_index ls i + slice_index hs i * 2 ^ 64
joined_index [] hs i e h = absurd (omega (arith, h))
joined_index (l ∷ ls) [] i e h = absurd (omega (arith, e))
joined_index (l ∷ ls) (h ∷ hs) zero e lt = refl
joined_index (l ∷ ls) (h ∷ hs) (suc i) e lt = joined_index ls hs i (omega (arith, e)) (omega (arith, lt))

pub joined_set : (ls hs : List ℕ) (i x y : ℕ) → length ls ≡ length hs → joined_halves (set ls i x) (set hs i y) ≡ set (joined_halves ls hs) i (x + y * 2 ^ 64)
joined_set [] hs i x y e = refl
joined_set (l ∷ ls) [] i x y e = absurd (omega (arith, e))
joined_set (l ∷ ls) (h ∷ hs) zero x y e = refl
joined_set (l ∷ ls) (h ∷ hs) (suc i) x y e = ap (λ n. (l + h * 2 ^ 64) ∷ n) (joined_set ls hs i x y (omega (arith, e)))

pub joined_set_low : (ls hs : List ℕ) (i x : ℕ) → length ls ≡ length hs → slice_index hs i ≡ 0 → joined_halves (set ls i x) hs ≡ set (joined_halves ls hs) i x
joined_set_low [] hs i x e z = refl
joined_set_low (l ∷ ls) [] i x e z = absurd (omega (arith, e))
joined_set_low (l ∷ ls) (h ∷ hs) zero x e z = ap (λ n. n ∷ joined_halves ls hs) (let q : h ≡ 0 = z in let r : x + h * 2 ^ 64 ≡ x = omega (arith, q) in r)
joined_set_low (l ∷ ls) (h ∷ hs) (suc i) x e z = ap (λ n. (l + h * 2 ^ 64) ∷ n) (joined_set_low ls hs i x (omega (arith, e)) z)

pub joined_of : (ns : List ℕ) → joined_halves (map low_half ns) (map high_half ns) ≡ ns
joined_of [] = refl
joined_of (n ∷ ns) = ap (λ l. (n % 2 ^ 64 + n / 2 ^ 64 * 2 ^ 64) ∷ l) (joined_of ns) ∙ ap (λ x. x ∷ ns) (let r : n % 2 ^ 64 + n / 2 ^ 64 * 2 ^ 64 ≡ n = omega arith in r)

-- a number below 2 to the 64th has no high half
pub no_high : (ls hs : List ℕ) (i : ℕ) → length ls ≡ length hs → i < length ls → slice_index (joined_halves ls hs) i < 2 ^ 64 → slice_index hs i ≡ 0
no_high ls hs i e h lt = let a = joined_index ls hs i e h in omega (arith, a, lt)

pub low_is : (ls hs : List ℕ) (i : ℕ) → length ls ≡ length hs → i < length ls → slice_index (joined_halves ls hs) i < 2 ^ 64 → slice_index ls i ≡ slice_index (joined_halves ls hs) i
low_is ls hs i e h lt = let a = joined_index ls hs i e h in omega (arith, a, lt)

-- what is known of a place of numbers whose halves these are
pub places_known : (ls hs ns : List ℕ) (i : ℕ) → joined_halves ls hs ≡ ns → length ls ≡ length hs → i < length ns → (i < length ls) × (i < length hs)
places_known ls hs ns i e l h =
    let a = ap length e in
    let b = joined_length ls hs l in
    (omega (arith, a, b, h), omega (arith, a, b, h, l))
