-- Numbers read from their front.
use Rattle.std.proofs.Common.{◌≡◌, ℕ, ◌+◌, ◌*◌, ◌^◌, ◌<◌, ◌≤◌, List, [], ◌∷◌, ◌++◌, length, take, drop, get_or, true, false, cond, not, ◌==◌}
use Rattle.std.proofs.Common.{◌&&◌, nat_lt, nat_le, Some, None, refl, sym, ap, ◌∙◌, arith}
use Rattle.std.specs.List.{list_all}
use Rattle.std.proofs.lemmas.List.{take-append-drop}
use Rattle.std.proofs.lemmas.Bool.{and_parts, le-leb, le-ltb, lt-ltb, not-false, not-true}
use Rattle.std.proofs.Math.Bool.{and-false}
use Rattle.safl_word.specs.Numerals.{digit, value}
use Rattle.safl_word.proofs.NumeralsRead.{value_more, value_front, taken}
use Rattle.safl_verilog.specs.Faults.{is_short, before_quote, behind_quote}
use Rattle.safl_word.specs.Runs.{EndsRun, IsRun}
use Rattle.safl_vparse.specs.Numbers.{bounded_value}

-- too great a number, from some digit on
pub too_great : (b : ℕ) (w : List ℕ) (i n : ℕ) → 1 ≤ b → i < length w → n ≡ value b (take i w) → (n * b + digit (get_or w i 0) < 2 ^ 128 → ⊥) → None ≡ bounded_value b w
too_great b w i n pos lt e h =
    let m = value_more b w i lt in
    let f = value_front b w (i + 1) pos in
    let p : n * b ≡ value b (take i w) * b = ap (λ j. j * b) e in
    let large : 2 ^ 128 ≤ value b w = below (n * b + digit (get_or w i 0)) (value b w) h (omega (arith, m, f, p)) in
    sym (ap (λ c. cond (nat_le (length w) 128 && c) (Some (value b w)) None) (le-ltb (value b w) (2 ^ 128) large) ∙ ap (λ c. cond c (Some (value b w)) None) (and-false (nat_le (length w) 128)))
  where
    below : (x y : ℕ) → (x < 2 ^ 128 → ⊥) → x ≤ y → 2 ^ 128 ≤ y
    below x y k l = grind arith

-- all digits are read
pub all_read : (b : ℕ) (w : List ℕ) (i n : ℕ) → length w ≤ 128 → i ≤ length w → length w ≤ i → n ≡ value b (take i w) → n < 2 ^ 128 → Some n ≡ bounded_value b w
all_read b w i n short le ge e small =
    let whole : n ≡ value b w = e ∙ ap (value b) (taken w i le ge) in
    let s : is_short b w ≡ true = ap (λ c. c && nat_lt (value b w) (2 ^ 128)) (le-leb (length w) 128 short) ∙ lt-ltb (value b w) (2 ^ 128) (omega (arith, whole)) in
    ap (λ k. Some k) whole ∙ sym (ap (λ c. cond c (Some (value b w)) None) s)

-- ---- the quote of a sized number

not_quote : (c : ℕ) → not (c == 39) ≡ true → (c == 39) ≡ false
not_quote c h = not-true (c == 39) h

is_quote : (c : ℕ) → not (c == 39) ≡ false → (c == 39) ≡ true
is_quote c h = not-false (c == 39) h

quoted : (u v : List ℕ) → list_all (λ c. not (c == 39)) u ≡ true → EndsRun (λ c. not (c == 39)) v → (before_quote (u ++ v) ≡ u) × (behind_quote (u ++ v) ≡ drop 1 v)
quoted [] [] h e = (refl, refl)
quoted [] (c ∷ v) h e = let q = is_quote c e in (rw q refl, rw q refl)
quoted (c ∷ u) v h e =
    let a = and_parts (not (c == 39)) (list_all (λ c. not (c == 39)) u) h in
    let q = not_quote c a.0 in
    let k = quoted u v a.1 e in
    (rw (q, k.0) refl, rw (q, k.1) refl)

pub quote_parts : (w : List ℕ) (n : ℕ) → IsRun (λ c. not (c == 39)) w n → (before_quote w ≡ take n w) × (behind_quote w ≡ drop 1 (drop n w))
quote_parts w n h =
    let k = quoted (take n w) (drop n w) h.passes h.ends in
    let e = take-append-drop n w in
    (ap before_quote (sym e) ∙ k.0, ap behind_quote (sym e) ∙ k.1)
