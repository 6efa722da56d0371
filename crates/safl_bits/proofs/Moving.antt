-- Words that are moved, and the ends of sums, products and shifts.
use Rattle.safl_bits.proofs.Common.{Assignment, Lit, bit_of, moved, nat_tests, number, on, shown, values}
use Rattle.std.proofs.Common.{◌≡◌, ◌⊎◌, inl, inr, ℕ, zero, suc, min, ◌+◌, ◌-◌, ◌*◌, ◌/◌, ◌%◌, ◌^◌, ◌<◌, ◌≤◌, List, ◌∷◌, ◌++◌, length, take, drop}
use Rattle.std.proofs.Common.{replicate, Bool, true, false, not, cond, nat_lt, ◌==◌, Result, Ok, Err, IfOk, refl, sym, ap, ◌∙◌, subst, arith}
use Rattle.std.proofs.Math.Nat.{div-eq_of_lt, pow-le-pow_right, mul-mod_left, mod-eq_of_lt}
use Rattle.std.proofs.lemmas.List.{length-map, length-replicate, map-append, take-map, drop-map, drop_all}
use Rattle.std.proofs.lemmas.Nat.{pow-add, shl-shr, mod-pow-add}
use Rattle.std.proofs.lemmas.Bool.{le-ltb}
use Rattle.safl_word.proofs.Naturals.{le_or_more}
use Rattle.safl_bits.specs.declared.words.Side.{Side}
use Rattle.safl_bits.specs.declared.words.Side.TheVariants.{Left, Right}
use Rattle.safl_bits.proofs.Numbers.{number-append, number_take, number_drop, number_zeros}
use Rattle.safl_bits.proofs.Places.{shown_lt}
use Rattle.safl_bits.proofs.Steps.{left_step, right_step}

pub if_three : {T E : Type 0} (r : Result T E) (P Q S R : T → Type 0) → IfOk r P → IfOk r Q → IfOk r S → ((x : T) → P x → Q x → S x → R x) → IfOk r R
if_three (Ok x) P Q S R p q s f = f x p q s
if_three (Err e) P Q S R p q s f = tt

zero_bits : (m : Assignment) (z : Lit) (n : ℕ) → on m z ≡ false → values m (replicate n z) ≡ replicate n false
zero_bits m z zero e = refl
zero_bits m z (suc n) e = λ i. e i ∷ zero_bits m z n e i

pub shown-append : (m : Assignment) (xs ys : List Lit) → shown m (xs ++ ys) ≡ shown m xs + 2 ^ length xs * shown m ys
shown-append m xs ys = ap number (map-append (on m) xs ys) ∙ number-append (values m xs) (values m ys) ∙ ap (λ n. shown m xs + 2 ^ n * shown m ys) (length-map xs (on m))

pub shown_take : (m : Assignment) (xs : List Lit) (k : ℕ) → shown m (take k xs) ≡ shown m xs % 2 ^ k
shown_take m xs k = ap number (sym (take-map (on m) k xs)) ∙ number_take k (values m xs)

pub shown_drop : (m : Assignment) (xs : List Lit) (k : ℕ) → shown m (drop k xs) ≡ shown m xs / 2 ^ k
shown_drop m xs k = ap number (sym (drop-map (on m) k xs)) ∙ number_drop k (values m xs)

pub shown_zeros : (m : Assignment) (z : Lit) (n : ℕ) → on m z ≡ false → shown m (replicate n z) ≡ 0
shown_zeros m z n e = ap number (zero_bits m z n e) ∙ number_zeros n

-- a multiple of 2 to the width has no low bits
pub no_low : (a w b : ℕ) → w ≤ b → (a * 2 ^ b) % 2 ^ w ≡ 0
no_low a w b h =
    let z : (b - w) + w ≡ b = omega arith in
    let e : a * 2 ^ b ≡ a * 2 ^ (b - w) * 2 ^ w = ap (λ n. a * 2 ^ n) (sym z) ∙ ap (λ n. a * n) (pow-add 2 (b - w) w) ∙
    (let q : a * (2 ^ (b - w) * 2 ^ w) ≡ a * 2 ^ (b - w) * 2 ^ w = grind arith in q) in
    ap (λ n. n % 2 ^ w) e ∙ mul-mod_left (a * 2 ^ (b - w)) (2 ^ w)

-- a number below 2 to the width has no high bits
pub no_high : (a w b : ℕ) → a < 2 ^ w → w ≤ b → a / 2 ^ b ≡ 0
no_high a w b l h = let p : 2 ^ w ≤ 2 ^ b = pow-le-pow_right (omega arith) h in div-eq_of_lt (omega (arith, p, l))

-- the low bits of a number that is moved up
raised : (a w b : ℕ) → b ≤ w → 2 ^ b * (a % 2 ^ (w - b)) ≡ (a * 2 ^ b) % 2 ^ w
raised a w b h =
    let z : (w - b) + b ≡ w = omega arith in
    let e : (a * 2 ^ b) % 2 ^ ((w - b) + b) ≡ ((a * 2 ^ b) / 2 ^ b % 2 ^ (w - b)) * 2 ^ b + (a * 2 ^ b) % 2 ^ b = mod-pow-add (a * 2 ^ b) (w - b) b in
    let f : (a * 2 ^ b) / 2 ^ b % 2 ^ (w - b) ≡ a % 2 ^ (w - b) = ap (λ n. n % 2 ^ (w - b)) (shl-shr a b) in
    let g : (a * 2 ^ b) % 2 ^ b ≡ 0 = mul-mod_left a (2 ^ b) in
    let k : 2 ^ b * (a % 2 ^ (w - b)) ≡ (a % 2 ^ (w - b)) * 2 ^ b + 0 = grind arith in
    k ∙ sym (λ i. f i * 2 ^ b + g i) ∙ sym e ∙ ap (λ n. (a * 2 ^ b) % 2 ^ n) z

pub raise_shown : (m : Assignment) (z : Lit) (a : List Lit) (by lost : ℕ) → on m z ≡ false → lost ≡ min by (length a) → shown m
    (replicate lost z ++ take (length a - lost) a) ≡ (shown m a * 2 ^ by) % 2 ^ length a
raise_shown m z a by lost e f =
    let w = length a in
    shown-append m (replicate lost z) (take (w - lost) a) ∙ (λ i. shown_zeros m z lost e i + 2 ^ length-replicate lost z i * shown_take m a (w - lost) i)
    ∙ on_side (le_or_more by w)
  where
    on_side : (by ≤ length a) ⊎ (length a < by) → 0 + 2 ^ lost * (shown m a % 2 ^ (length a - lost)) ≡ (shown m a * 2 ^ by) % 2 ^ length a
    on_side (inl h) = let q : lost ≡ by = omega (arith, f, h) in subst
        (λ k. 0 + 2 ^ k * (shown m a % 2 ^ (length a - k)) ≡ (shown m a * 2 ^ by) % 2 ^ length a) (sym q) (let r = raised (shown m a) (length a) by h in omega (arith, r))
    on_side (inr h) =
        let q : length a - lost ≡ 0 = omega (arith, f, h) in
        let o : shown m a % 2 ^ (length a - lost) ≡ 0 = ap (λ k. shown m a % 2 ^ k) q ∙ (let u : shown m a % 1 ≡ 0 = omega arith in u) in
        ap (λ k. 0 + 2 ^ lost * k) o ∙ (let u : 0 + 2 ^ lost * 0 ≡ 0 = omega arith in u) ∙ sym (no_low (shown m a) (length a) by (omega (arith, h)))

pub lower_shown : (m : Assignment) (z : Lit) (a : List Lit) (by lost : ℕ) → on m z ≡ false → lost ≡ min by (length a) → shown m (drop lost a ++ replicate lost z) ≡ shown m a / 2 ^ by
lower_shown m z a by lost e f =
    shown-append m (drop lost a) (replicate lost z) ∙ (λ i. shown_drop m a lost i + 2 ^ length (drop lost a) * shown_zeros m z lost e i) ∙ on_side (le_or_more by (length a))
  where
    on_side : (by ≤ length a) ⊎ (length a < by) → shown m a / 2 ^ lost + 2 ^ length (drop lost a) * 0 ≡ shown m a / 2 ^ by
    on_side (inl h) = let q : lost ≡ by = omega (arith, f, h) in let r : shown m a / 2 ^ lost ≡ shown m a / 2 ^ by = ap (λ k. shown m a / 2 ^ k) q in omega (arith, r)
    on_side (inr h) =
        let q : lost ≡ length a = omega (arith, f, h) in
        let s : shown m a / 2 ^ lost ≡ 0 = no_high (shown m a) (length a) lost (shown_lt m a) (omega (arith, q)) in
        let t : shown m a / 2 ^ by ≡ 0 = no_high (shown m a) (length a) by (shown_lt m a) (omega (arith, h)) in
        omega (arith, s, t)

-- ---- shifts

pub moved_none : (side : Side) (w a : ℕ) → a < 2 ^ w → a ≡ moved side (2 ^ w) a (2 ^ 0)
moved_none Left w a h = sym (mod-eq_of_lt h) ∙ ap (λ n. n % 2 ^ w) (let z : a ≡ a * 1 = omega arith in z)
moved_none Right w a h = let z : a ≡ a / 1 = omega arith in z

pub moved_step : (side : Side) (w a t s r q : ℕ) (x : Bool) → r ≡ moved side (2 ^ w) a (2 ^ t) → q ≡ cond x (moved side (2 ^ w) r (2 ^ s)) r → q ≡ moved side (2 ^ w) a (2 ^ (t + s * bit_of x))
moved_step Left w a t s r q x e f = left_step (2 ^ w) a t s r q x e f
moved_step Right w a t s r q x e f = right_step a t s r q x e f

moved_out : (side : Side) (w a b : ℕ) → a < 2 ^ w → w ≤ b → moved side (2 ^ w) a (2 ^ b) ≡ 0
moved_out Left w a b h k = no_low a w b k
moved_out Right w a b h k = no_high a w b h k

-- what is left where the amount's high bits count too
pub shift_end : (side : Side) (w a b low high p r q : ℕ) → a < 2 ^ w → b ≡ low + p * high → (w ≤ p) ⊎ (high ≡ 0) → r ≡ moved side (2 ^ w) a (2 ^ low) → q ≡ cond (not (not (high == 0))) r 0
    → q ≡ cond (nat_lt b w) (moved side (2 ^ w) a (2 ^ b)) 0
shift_end side w a b low zero p r q l e f g h =
    let z : b ≡ low = omega (arith, e) in
    let k : q ≡ moved side (2 ^ w) a (2 ^ b) = h ∙ g ∙ ap (λ n. moved side (2 ^ w) a (2 ^ n)) (sym z) in
    elim (le_or_more w b) [
      | inl o ↦ k ∙ moved_out side w a b l o ∙ sym (ap (λ t. cond t (moved side (2 ^ w) a (2 ^ b)) 0) (le-ltb b w o))
      | inr o ↦ k ∙ sym (ap (λ t. cond t (moved side (2 ^ w) a (2 ^ b)) 0) (let t : nat_lt b w ≡ true = grind (arith, nat_tests) in t))
    ]
shift_end side w a b low (suc high) p r q l e (inl f) g h =
    let z : p * suc high ≡ p + p * high = grind arith in
    let o : w ≤ b = omega (arith, e, f, z) in
    let u : not (not (suc high == 0)) ≡ false = grind (arith, nat_tests) in
    h ∙ ap (λ t. cond t r 0) u ∙ sym (ap (λ t. cond t (moved side (2 ^ w) a (2 ^ b)) 0) (le-ltb b w o))
shift_end side w a b low (suc high) p r q l e (inr f) g h = absurd (cc)

-- the stages reach the width, or the amount has no more bits
pub enough_stages : (m : Assignment) (amount : List Lit) (w s n : ℕ) → w ≤ 2 ^ s → n ≡ min s (length amount) → (w ≤ 2 ^ n) ⊎ (shown m (drop n amount) ≡ 0)
enough_stages m amount w s n h e = elim (le_or_more (length amount) s) [
  | inl l ↦ inr (ap (shown m) (drop_all n amount (omega (arith, e, l))))
  | inr l ↦ inl (subst (λ k. w ≤ 2 ^ k) (let z : s ≡ n = omega (arith, e, l) in z) h)
]
