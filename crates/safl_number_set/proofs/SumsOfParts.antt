-- Sums of parts of lists.
use Rattle.safl_number_set.proofs.Common.{AreSums, IsCounted, cases_eq, part, sum}
use Rattle.std.proofs.Common.{◌≡◌, ◌≢◌, ℕ, zero, suc, ◌+◌, ◌-◌, ◌*◌, ◌/◌, ◌%◌, ◌<◌, ◌≤◌, ◌⊎◌, List, [], ◌∷◌, length, take, drop, set, get_or}
use Rattle.std.proofs.Common.{replicate, refl, sym, ap, ◌∙◌, subst, ⊎_elim, inl, inr, arith, length-set}
use Rattle.std.proofs.lemmas.List.{get_or-set_same, get_or-set_other, get_or-take, get_or-drop, take_all, take-take, take-set-le, drop-set-lt}
use Rattle.std.proofs.lemmas.List.{drop-set-add, drop-take, length-take, length-drop, length-replicate}
use Rattle.std.proofs.lemmas.List.Sums.{sum_by-cons, sum_by-set, sum_by_more, sum_by-take-drop, sum_by-take-le, get_or-le-sum_by}
use Rattle.std.proofs.lemmas.List.Folds.{sum_by-replicate}

abbrev same : ℕ → ℕ
same x = x

take_set : (n : ℕ) (l : List ℕ) (i a : ℕ) → take n (set l i a) ≡ set (take n l) i a
take_set zero l i a = refl
take_set (suc n) [] i a = refl
take_set (suc n) (x ∷ xs) zero a = refl
take_set (suc n) (x ∷ xs) (suc i) a = ap (λ l. x ∷ l) (take_set n xs i a)

part_long : (low : List ℕ) (k : ℕ) → k < length low → k % 32 < length (part (k / 32) low)
part_long low k lt = omega (arith, length-take 32 (drop (32 * (k / 32)) low), length-drop (32 * (k / 32)) low)

part_at : (low : List ℕ) (k : ℕ) → get_or (part (k / 32) low) (k % 32) 0 ≡ get_or low k 0
part_at low k =
    let e : 32 * (k / 32) + k % 32 ≡ k = omega arith in
    get_or-take 32 (drop (32 * (k / 32)) low) (k % 32) 0 (omega arith) ∙ (get_or-drop (32 * (k / 32)) low (k % 32) 0 ∙ ap (λ i. get_or low i 0) e)

-- a number of the lower list is part of its sum
pub part_least : (low high : List ℕ) (k : ℕ) → AreSums low high → k < length low → get_or low k 0 ≤ get_or high (k / 32) 0
part_least low high k h lt =
    let a = get_or-le-sum_by same (part (k / 32) low) (k % 32) 0 (part_long low k lt) in
    let b = part_at low k in
    let c = h.each (k / 32) in
    omega (arith, a, b, c)

-- where one number changes, its block alone does
pub part_changed : (low : List ℕ) (k x : ℕ) → part (k / 32) (set low k x) ≡ set (part (k / 32) low) (k % 32) x
part_changed low k x =
    let e : k ≡ 32 * (k / 32) + k % 32 = omega arith in
    ap (λ i. take 32 (drop (32 * (k / 32)) (set low i x))) e
    ∙ (ap (take 32) (drop-set-add (32 * (k / 32)) low (k % 32) x) ∙ take_set 32 (drop (32 * (k / 32)) low) (k % 32) x)

pub part_beside : (low : List ℕ) (k x b : ℕ) → b ≢ k / 32 → part b (set low k x) ≡ part b low
part_beside low k x b ne = ⊎_elim before after (sides b ne)
  where
    sides : (b : ℕ) → b ≢ k / 32 → (k < 32 * b) ⊎ (32 * b + 32 ≤ k)
    sides b ne = elim (cases_lt b) [ inl l ↦ inl l | inr g ↦ inr (omega (arith, g, ne)) ]
      where
        cases_lt : (b : ℕ) → (k < 32 * b) ⊎ (32 * b ≤ k)
        cases_lt b = grind arith

    before : k < 32 * b → part b (set low k x) ≡ part b low
    before l = ap (take 32) (drop-set-lt (32 * b) low k x l)

    after : 32 * b + 32 ≤ k → part b (set low k x) ≡ part b low
    after g =
        let e : k ≡ 32 * b + (k - 32 * b) = omega (arith, g) in
        ap (λ i. take 32 (drop (32 * b) (set low i x))) e
        ∙ (ap (take 32) (drop-set-add (32 * b) low (k - 32 * b) x) ∙ take-set-le 32 (drop (32 * b) low) (k - 32 * b) x (omega (arith, g)))

pub part_sum : (low : List ℕ) (k x : ℕ) → k < length low → sum (part (k / 32) (set low k x)) + get_or low k 0 ≡ sum (part (k / 32) low) + x
part_sum low k x lt =
    let at = part_at low k in
    let moved = sum_by-set same (part (k / 32) low) (k % 32) x 0 (part_long low k lt) in
    let sums : sum (part (k / 32) (set low k x)) ≡ sum (set (part (k / 32) low) (k % 32) x) = ap (λ (l : List ℕ). sum l) (part_changed low k x) in
    omega (arith, at, moved, sums)

-- where one number changes, its sum alone does
pub sums_set : (low high : List ℕ) (k x y : ℕ) → AreSums low high → k < length low → y + get_or low k 0 ≡ get_or high (k / 32) 0 + x
    → AreSums (set low k x) (set high (k / 32) y)
sums_set low high k x y h lt balance = record {
  each = λ b. ⊎_elim (at b) (off b) (cases_eq b (k / 32));
  enough = omega (arith, length-set low k x, length-set high (k / 32) y, h.enough);
}
  where
    at : (b : ℕ) → b ≡ k / 32 → get_or (set high (k / 32) y) b 0 ≡ sum (part b (set low k x))
    at b e =
        let moved = part_sum low k x lt in
        let was = h.each (k / 32) in
        let within : k / 32 < length high = omega (arith, h.enough, lt) in
        let new : get_or (set high (k / 32) y) (k / 32) 0 ≡ y = get_or-set_same high (k / 32) y 0 within in
        let here : get_or (set high (k / 32) y) (k / 32) 0 ≡ sum (part (k / 32) (set low k x)) = omega (arith, new, moved, was, balance) in
        subst (λ n. get_or (set high (k / 32) y) n 0 ≡ sum (part n (set low k x))) (sym e) here

    off : (b : ℕ) → b ≢ k / 32 → get_or (set high (k / 32) y) b 0 ≡ sum (part b (set low k x))
    off b ne = get_or-set_other high (k / 32) b y 0 ne ∙ (h.each b ∙ sym (ap (λ (l : List ℕ). sum l) (part_beside low k x b ne)))

split_sum : (l : List ℕ) (a n : ℕ) → sum (take (a + n) l) ≡ sum (take a l) + sum (take n (drop a l))
split_sum l a n =
    let parts = sum_by-take-drop same (take (a + n) l) a in
    let first : sum (take a (take (a + n) l)) ≡ sum (take a l) = ap (λ (l : List ℕ). sum l) (take-take a (a + n) l (omega arith)) in
    let second : sum (drop a (take (a + n) l)) ≡ sum (take n (drop a l)) = ap (λ (l : List ℕ). sum l) (drop-take a n l) in
    omega (arith, parts, first, second)

-- the first sums come to what the first numbers do
pub sum_to : (low high : List ℕ) → AreSums low high → (m : ℕ) → m ≤ length high → sum (take m high) ≡ sum (take (32 * m) low)
sum_to low high h zero le = refl
sum_to low high h (suc m) le =
    let one : suc m ≡ m + 1 = omega arith in
    let more : 32 * suc m ≡ 32 * m + 32 = omega arith in
    let left : sum (take (suc m) high) ≡ sum (take (m + 1) high) = ap (λ n. sum (take n high)) one in
    let right : sum (take (32 * suc m) low) ≡ sum (take (32 * m + 32) low) = ap (λ n. sum (take n low)) more in
    let step = sum_by_more same high m 0 (omega (arith, le)) in
    let split = split_sum low (32 * m) 32 in
    let before = sum_to low high h m (omega (arith, le)) in
    let here = h.each m in
    omega (arith, left, right, step, split, before, here)

pub sum_all : (low high : List ℕ) → AreSums low high → sum high ≡ sum low
sum_all low high h =
    ap (λ (l : List ℕ). sum l) (sym (take_all (length high) high (omega arith)))
    ∙ (sum_to low high h (length high) (omega arith)
    ∙ ap (λ (l : List ℕ). sum l) (take_all (32 * length high) low h.enough))

pub sum_bits : (l : List ℕ) → ((k : ℕ) → get_or l k 0 ≤ 1) → sum l ≤ length l
sum_bits [] h = omega arith
sum_bits (x ∷ xs) h = let a = sum_by-cons same x xs in let b = h 0 in let r = sum_bits xs (λ k. h (suc k)) in omega (arith, a, b, r)

-- what the sums come to is few
pub record AreFew (ones blocks tops : List ℕ) : Type 0 where
  pub of_ones : sum ones ≤ 5000
  pub of_blocks : sum blocks ≡ sum ones
  pub of_tops : sum tops ≡ sum ones

pub are_few : (ones blocks tops : List ℕ) (total : ℕ) → IsCounted ones blocks tops total → AreFew ones blocks tops
are_few ones blocks tops total h = record {
  of_ones = let a = sum_bits ones h.bits in omega (arith, a, h.few);
  of_blocks = sum_all ones blocks h.blocks;
  of_tops = sum_all blocks tops h.tops ∙ sum_all ones blocks h.blocks;
}

-- ---- one bit changes

pub set_counted : (ones blocks tops : List ℕ) (total : ℕ) → IsCounted ones blocks tops total → (k x y z t : ℕ) → k < length ones → x ≤ 1
    → y + get_or ones k 0 ≡ get_or blocks (k / 32) 0 + x → z + get_or ones k 0 ≡ get_or tops (k / 32 / 32) 0 + x → t + get_or ones k 0 ≡ total + x
    → IsCounted (set ones k x) (set blocks (k / 32) y) (set tops (k / 32 / 32) z) t
set_counted ones blocks tops total h k x y z t lt bit one two all = record {
  bits = λ j. ⊎_elim
      (λ e. subst (λ n. get_or (set ones k x) n 0 ≤ 1) (sym e) (let a = get_or-set_same ones k x 0 lt in omega (arith, a, bit)))
      (λ ne. let a = get_or-set_other ones k j x 0 ne in let b = h.bits j in omega (arith, a, b))
      (cases_eq j k);
  few = let a = length-set ones k x in omega (arith, a, h.few);
  blocks = sums_set ones blocks k x y h.blocks lt one;
  tops = sums_set blocks tops (k / 32) y z h.tops (omega (arith, lt, h.blocks.enough)) (omega (arith, one, two));
  total = let a = sum_by-set same ones k x 0 lt in omega (arith, a, all, h.total);
}

-- ---- no bit

pub zeros : (n : ℕ) → sum (replicate n 0) ≡ 0
zeros n = let a = sum_by-replicate same n 0 in omega (arith, a)

pub zeros_part : (n a m : ℕ) → sum (take m (drop a (replicate n 0))) ≡ 0
zeros_part n a m =
    let x = sum_by-take-le same (drop a (replicate n 0)) m in
    let y = sum_by-take-drop same (replicate n 0) a in
    let z = zeros n in
    omega (arith, x, y, z)

abbrev zeros_of : ℕ → List ℕ
zeros_of n = replicate n 0

abbrev at_place : List ℕ → ℕ → ℕ
at_place l k = get_or l k 0

zero_at : (n k : ℕ) → at_place (zeros_of n) k ≡ 0
zero_at zero k = refl
zero_at (suc n) zero = refl
zero_at (suc n) (suc k) = zero_at n k

pub zero_sums : (n m : ℕ) → n ≤ 32 * m → AreSums (replicate n 0) (replicate m 0)
zero_sums n m le = record {
  each = λ b. zero_at m b ∙ sym (zeros_part n (32 * b) 32);
  enough = let a : length (zeros_of n) ≡ n = length-replicate n 0 in let b : length (zeros_of m) ≡ m = length-replicate m 0 in omega (arith, a, b, le);
}

pub none_counted : (n m p : ℕ) → n ≤ 5000 → n ≤ 32 * m → m ≤ 32 * p → IsCounted (replicate n 0) (replicate m 0) (replicate p 0) 0
none_counted n m p few le lf = record {
  bits = λ k. let a = zero_at n k in omega (arith, a);
  few = let a : length (zeros_of n) ≡ n = length-replicate n 0 in omega (arith, a, few);
  blocks = zero_sums n m le;
  tops = zero_sums m p lf;
  total = sym (zeros n);
}

-- a bit is part of the sum
pub bit_least : (ones blocks tops : List ℕ) (total : ℕ) → IsCounted ones blocks tops total → (k : ℕ) → k < length ones → get_or ones k 0 ≤ total
bit_least ones blocks tops total h k lt = let a = get_or-le-sum_by same ones k 0 lt in omega (arith, a, h.total)

-- no sum is great
pub block_few : (ones blocks tops : List ℕ) (total : ℕ) → IsCounted ones blocks tops total → (i : ℕ) → i < length blocks → get_or blocks i 0 ≤ 5000
block_few ones blocks tops total h i lt = let f = are_few ones blocks tops total h in let a = get_or-le-sum_by same blocks i 0 lt in
    omega (arith, a, f.of_ones, f.of_blocks)

pub top_few : (ones blocks tops : List ℕ) (total : ℕ) → IsCounted ones blocks tops total → (i : ℕ) → i < length tops → get_or tops i 0 ≤ 5000
top_few ones blocks tops total h i lt = let f = are_few ones blocks tops total h in let a = get_or-le-sum_by same tops i 0 lt in
    omega (arith, a, f.of_ones, f.of_tops)
