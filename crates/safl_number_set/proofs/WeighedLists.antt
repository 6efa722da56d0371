-- Lists of weighed bits.
use Rattle.safl_number_set.proofs.Common.{part, sum}
use Rattle.std.proofs.Common.{◌≡◌, ℕ, zero, suc, ◌+◌, ◌*◌, ◌/◌, ◌<◌, ◌≤◌, List, [], ◌∷◌, length, take, drop, set, get_or, cond, refl, sym, ap, ◌∙◌, ⊎_elim, arith}
use Rattle.std.proofs.lemmas.Bool.{cases_eq, eq-eqb, ne_eqb, cases_lt}
use Rattle.std.proofs.lemmas.List.{get_or-take, get_or-drop, get_or_past, length-take}
use Rattle.std.proofs.lemmas.List.Sums.{sum_by-cons}
use Rattle.safl_number_set.specs.Groups.{weighed, only}
use Rattle.safl_number_set.proofs.SumsOfParts.{sum_bits}

abbrev same : ℕ → ℕ
same x = x

pub weighed_long : (w : ℕ → ℕ) (gs bs : List ℕ) → length bs ≡ length gs → length (weighed w gs bs) ≡ length gs
unfolding weighed
weighed_long w [] bs e = refl
weighed_long w (g ∷ gs) [] e = absurd (omega (arith, e))
weighed_long w (g ∷ gs) (b ∷ bs) e = ap suc (weighed_long w gs bs (omega (arith, e)))

pub weighed_at : (w : ℕ → ℕ) (gs bs : List ℕ) → length bs ≡ length gs → (k : ℕ) → get_or (weighed w gs bs) k 0 ≡ get_or bs k 0 * w (get_or gs k 0)
unfolding weighed
weighed_at w [] [] e k = omega arith
weighed_at w [] (b ∷ bs) e k = absurd (omega (arith, e))
weighed_at w (g ∷ gs) [] e k = absurd (omega (arith, e))
weighed_at w (g ∷ gs) (b ∷ bs) e zero = refl
weighed_at w (g ∷ gs) (b ∷ bs) e (suc k) = weighed_at w gs bs (omega (arith, e)) k

pub weighed_set : (w : ℕ → ℕ) (gs bs : List ℕ) → length bs ≡ length gs → (k x : ℕ) → weighed w gs (set bs k x) ≡ set (weighed w gs bs) k (x * w (get_or gs k 0))
unfolding weighed
weighed_set w [] bs e k x = refl
weighed_set w (g ∷ gs) [] e k x = absurd (omega (arith, e))
weighed_set w (g ∷ gs) (b ∷ bs) e zero x = refl
weighed_set w (g ∷ gs) (b ∷ bs) e (suc k) x = ap (λ (l : List ℕ). b * w g ∷ l) (weighed_set w gs bs (omega (arith, e)) k x)

weighed_nil : (w : ℕ → ℕ) (gs : List ℕ) → weighed w gs [] ≡ []
unfolding weighed
weighed_nil w [] = refl
weighed_nil w (g ∷ gs) = refl

weighed_take : (w : ℕ → ℕ) (n : ℕ) (gs bs : List ℕ) → take n (weighed w gs bs) ≡ weighed w (take n gs) (take n bs)
unfolding weighed
weighed_take w zero gs bs = refl
weighed_take w (suc n) [] bs = refl
weighed_take w (suc n) (g ∷ gs) [] = refl
weighed_take w (suc n) (g ∷ gs) (b ∷ bs) = ap (λ (l : List ℕ). b * w g ∷ l) (weighed_take w n gs bs)

weighed_drop : (w : ℕ → ℕ) (n : ℕ) (gs bs : List ℕ) → drop n (weighed w gs bs) ≡ weighed w (drop n gs) (drop n bs)
unfolding weighed
weighed_drop w zero gs bs = refl
weighed_drop w (suc n) [] bs = refl
weighed_drop w (suc n) (g ∷ gs) [] = sym (weighed_nil w (drop n gs))
weighed_drop w (suc n) (g ∷ gs) (b ∷ bs) = weighed_drop w n gs bs

pub weighed_part : (w : ℕ → ℕ) (b : ℕ) (gs bs : List ℕ) → part b (weighed w gs bs) ≡ weighed w (part b gs) (part b bs)
weighed_part w b gs bs = ap (take 32) (weighed_drop w (32 * b) gs bs) ∙ weighed_take w 32 (drop (32 * b) gs) (drop (32 * b) bs)

-- ---- bits

pub part_bits : (l : List ℕ) → ((k : ℕ) → get_or l k 0 ≤ 1) → (b k : ℕ) → get_or (part b l) k 0 ≤ 1
part_bits l bits b k = ⊎_elim
    (λ lt. let e = get_or-take 32 (drop (32 * b) l) k 0 lt ∙ get_or-drop (32 * b) l k 0 in let one = bits (32 * b + k) in omega (arith, e, one))
    (λ ge. let e = get_or_past (part b l) k 0 (omega (arith, ge, length-take 32 (drop (32 * b) l))) in omega (arith, e))
    (cases_lt k 32)

pub part_few : (l : List ℕ) → ((k : ℕ) → get_or l k 0 ≤ 1) → (b : ℕ) → sum (part b l) ≤ 32
part_few l bits b = let a = sum_bits (part b l) (part_bits l bits b) in omega (arith, a, length-take 32 (drop (32 * b) l))

times_bits : (a b : ℕ) → a ≤ 1 → b ≤ 1 → a * b ≤ 1
times_bits zero b p q = omega arith
times_bits (suc zero) b p q = omega (arith, q)
times_bits (suc (suc a)) b p q = absurd (omega (arith, p))

pub weighed_bits : (w : ℕ → ℕ) (gs bs : List ℕ) → length bs ≡ length gs → ((k : ℕ) → get_or bs k 0 ≤ 1) → ((g : ℕ) → w g ≤ 1) → (k : ℕ)
    → get_or (weighed w gs bs) k 0 ≤ 1
weighed_bits w gs bs e bits ones k = let a = weighed_at w gs bs e k in let b = times_bits (get_or bs k 0) (w (get_or gs k 0)) (bits k)
    (ones (get_or gs k 0)) in omega (arith, a, b)

pub only_bits : (g h : ℕ) → only g h ≤ 1
only_bits g h = ⊎_elim
    (λ q. let e : only g h ≡ 1 = ap (λ b. cond b 1 0) (eq-eqb h g q) in omega (arith, e))
    (λ q. let e : only g h ≡ 0 = ap (λ b. cond b 1 0) (ne_eqb h g q) in omega (arith, e))
    (cases_eq h g)

-- ---- sums

times_add : (b x y z : ℕ) → b ≤ 1 → z ≡ x + y → b * z ≡ b * x + b * y
times_add zero x y z le e = omega arith
times_add (suc zero) x y z le e = omega (arith, e)
times_add (suc (suc b)) x y z le e = absurd (omega (arith, le))

weighed_add : (u v w : ℕ → ℕ) → ((g : ℕ) → w g ≡ u g + v g) → (gs bs : List ℕ) → ((k : ℕ) → get_or bs k 0 ≤ 1)
    → sum (weighed w gs bs) ≡ sum (weighed u gs bs) + sum (weighed v gs bs)
unfolding weighed
weighed_add u v w h [] bs bits = omega arith
weighed_add u v w h (g ∷ gs) [] bits = omega arith
weighed_add u v w h (g ∷ gs) (b ∷ bs) bits =
    let x = sum_by-cons same (b * w g) (weighed w gs bs) in
    let y = sum_by-cons same (b * u g) (weighed u gs bs) in
    let z = sum_by-cons same (b * v g) (weighed v gs bs) in
    let t = times_add b (u g) (v g) (w g) (bits 0) (h g) in
    let r = weighed_add u v w h gs bs (λ k. bits (suc k)) in
    omega (arith, x, y, z, t, r)

-- where the weights add up, so do the sums of each block
pub part_add : (u v w : ℕ → ℕ) → ((g : ℕ) → w g ≡ u g + v g) → (b : ℕ) (gs bs : List ℕ) → ((k : ℕ) → get_or bs k 0 ≤ 1)
    → sum (part b (weighed w gs bs)) ≡ sum (part b (weighed u gs bs)) + sum (part b (weighed v gs bs))
part_add u v w h b gs bs bits =
    let x : sum (part b (weighed w gs bs)) ≡ sum (weighed w (part b gs) (part b bs)) = ap (λ (l : List ℕ). sum l) (weighed_part w b gs bs) in
    let y : sum (part b (weighed u gs bs)) ≡ sum (weighed u (part b gs) (part b bs)) = ap (λ (l : List ℕ). sum l) (weighed_part u b gs bs) in
    let z : sum (part b (weighed v gs bs)) ≡ sum (weighed v (part b gs) (part b bs)) = ap (λ (l : List ℕ). sum l) (weighed_part v b gs bs) in
    let r = weighed_add u v w h (part b gs) (part b bs) (part_bits bs bits b) in
    omega (arith, x, y, z, r)

sum_none : (l : List ℕ) → ((k : ℕ) → get_or l k 0 ≡ 0) → sum l ≡ 0
sum_none [] h = refl
sum_none (x ∷ xs) h = let a = sum_by-cons same x xs in let b = h 0 in let r = sum_none xs (λ k. h (suc k)) in omega (arith, a, b, r)

-- of a group that has no number in the block
pub part_none : (gs bs : List ℕ) → length bs ≡ length gs → (b g : ℕ) → ((k : ℕ) → k < length gs → k / 32 ≡ b → get_or gs k 0 ≡ g → ⊥)
    → sum (part b (weighed (only g) gs bs)) ≡ 0
part_none gs bs e b g never = sum_none (part b (weighed (only g) gs bs)) at
  where
    zero_times : (x y : ℕ) → x ≡ 0 → x * y ≡ 0
    zero_times zero y q = omega arith
    zero_times (suc x) y q = absurd (omega (arith, q))

    times_zero : (x y : ℕ) → y ≡ 0 → x * y ≡ 0
    times_zero x zero q = omega arith
    times_zero x (suc y) q = absurd (omega (arith, q))

    none : (k : ℕ) → k / 32 ≡ b → get_or bs k 0 * only g (get_or gs k 0) ≡ 0
    none k on = ⊎_elim
        (λ lt. times_zero (get_or bs k 0) (only g (get_or gs k 0)) (ap (λ t. cond t 1 0) (ne_eqb (get_or gs k 0) g (never k lt on))))
        (λ ge. zero_times (get_or bs k 0) (only g (get_or gs k 0)) (get_or_past bs k 0 (omega (arith, ge, e))))
        (cases_lt k (length gs))

    at : (k : ℕ) → get_or (part b (weighed (only g) gs bs)) k 0 ≡ 0
    at k = ⊎_elim
        (λ lt.
        get_or-take 32 (drop (32 * b) (weighed (only g) gs bs)) k 0 lt ∙ (get_or-drop (32 * b) (weighed (only g) gs bs) k 0
        ∙ (weighed_at (only g) gs bs e (32 * b + k) ∙ none (32 * b + k) (omega (arith, lt)))))
        (λ ge. get_or_past (part b (weighed (only g) gs bs)) k 0 (omega (arith, ge, length-take 32 (drop (32 * b) (weighed (only g) gs bs)))))
        (cases_lt k 32)

pub sum_most : (l : List ℕ) → ((k : ℕ) → get_or l k 0 ≤ 32) → sum l ≤ 32 * length l
sum_most [] h = omega arith
sum_most (x ∷ xs) h = let a = sum_by-cons same x xs in let b = h 0 in let r = sum_most xs (λ k. h (suc k)) in omega (arith, a, b, r)
