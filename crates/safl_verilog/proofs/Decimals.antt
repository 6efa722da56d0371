-- The decimal digits of a number are a numeral of it.
use Rattle.safl_verilog.proofs.Common.{Decides-eqb, list_all, nat_tests}
use Rattle.std.proofs.Common.{◌≡◌, ℕ, zero, suc, ◌+◌, ◌*◌, ◌/◌, ◌%◌, ◌^◌, ◌<◌, ◌≤◌, List, [], ◌∷◌, length, Bool, true, false, cond, ◌==◌, ◌&&◌, nat_le, nat_lt, refl, sym, ap, subst, ◌∙◌, arith, lit<}
use Rattle.std.specs.Fmt.{digits, digits_onto, digit_glyph, decimal}
use Rattle.std.proofs.Math.Nat.{pow-suc, pow-zero}
use Rattle.safl_word.specs.Numerals.{digit, is_digit, value, IsNumeral}
use Rattle.safl_word.proofs.WordLaws.{digit_is, one_digit}
use Rattle.safl_verilog.specs.Faults.{is_short}

glyph_is : (d : ℕ) → d < 10 → digit_glyph false d ≡ 48 + d
glyph_is d h = grind (arith, nat_tests)

record Onto (k n : ℕ) (acc w : List ℕ) : Type 0 where
  passes : list_all (is_digit 10) acc ≡ true → list_all (is_digit 10) w ≡ true
  counts : value 10 w ≡ n * 10 ^ length acc + value 10 acc
  some : 1 ≤ length w
  few : length w ≤ suc k + length acc

one_onto : (k n : ℕ) (acc : List ℕ) → n < 10 → Onto k n acc (digit_glyph false (n % 10) ∷ acc)
one_onto k n acc h =
    let last : n % 10 ≡ n = omega arith in
    let is : digit_glyph false (n % 10) ≡ 48 + n = ap (digit_glyph false) last ∙ glyph_is n h in
    let p : is_digit 10 (digit_glyph false (n % 10)) ≡ true = ap (is_digit 10) is ∙ one_digit n h in
    let c : digit (digit_glyph false (n % 10)) ≡ n = ap digit is ∙ digit_is n h in
    record { passes = λ a. rw (p, a) refl; counts = ap (λ d. d * 10 ^ length acc + value 10 acc) c; some = omega arith; few = omega arith }

onto : (k n : ℕ) (acc : List ℕ) → n < 10 ^ suc k → Onto k n acc (digits_onto (suc k) 10 false n acc)
onto zero n acc h =
    let small : n < 10 = let e = pow-suc 10 0 in let z = pow-zero 10 in omega (arith, e, z) in
    let e : (n / 10 == 0) ≡ true = (Decides-eqb (n / 10) 0).1 (omega arith) in
    subst (λ (b : Bool). Onto zero n acc (cond b (digit_glyph false (n % 10) ∷ acc) (digits_onto zero 10 false (n / 10) (digit_glyph false (n % 10) ∷ acc)))) (sym e) (one_onto zero n acc small)
onto (suc k) n acc h = go (n / 10 == 0) refl (onto k (n / 10) (digit_glyph false (n % 10) ∷ acc) (let e = pow-suc 10 (suc k) in omega (arith, e)))
  where
    last : Onto k (n / 10) (digit_glyph false (n % 10) ∷ acc) (digits_onto (suc k) 10 false (n / 10) (digit_glyph false (n % 10) ∷ acc)) → Onto
        (suc k) n acc (digits_onto (suc k) 10 false (n / 10) (digit_glyph false (n % 10) ∷ acc))
    last t =
        let d : n % 10 < 10 = omega arith in
        let is = glyph_is (n % 10) d in
        let p : is_digit 10 (digit_glyph false (n % 10)) ≡ true = ap (is_digit 10) is ∙ one_digit (n % 10) d in
        let c : digit (digit_glyph false (n % 10)) ≡ n % 10 = ap digit is ∙ digit_is (n % 10) d in
        let e : digit (digit_glyph false (n % 10)) * 10 ^ length acc ≡ n % 10 * 10 ^ length acc = ap (λ d. d * 10 ^ length acc) c in
        let q : 10 ^ length (digit_glyph false (n % 10) ∷ acc) ≡ 10 ^ length acc * 10 = pow-suc 10 (length acc) in
        let m : n / 10 * 10 ^ length (digit_glyph false (n % 10) ∷ acc) ≡ n / 10 * (10 ^ length acc * 10) = ap (λ x. n / 10 * x) q in
        let whole : n * 10 ^ length acc ≡ (10 * (n / 10) + n % 10) * 10 ^ length acc = let f : n ≡ 10 * (n / 10) + n % 10 = omega arith in ap (λ x. x * 10 ^ length acc) f in
        record { passes = λ a. t.passes (rw (p, a) refl); counts = omega (arith, t.counts, e, m, whole); some = t.some; few = omega (arith, t.few) }

    go : (b : Bool) → (n / 10 == 0) ≡ b → Onto k (n / 10) (digit_glyph false (n % 10) ∷ acc)
        (digits_onto (suc k) 10 false (n / 10) (digit_glyph false (n % 10) ∷ acc)) → Onto (suc k) n acc
        (cond b (digit_glyph false (n % 10) ∷ acc) (digits_onto (suc k) 10 false (n / 10) (digit_glyph false (n % 10) ∷ acc)))
    go true e t = let z = (Decides-eqb (n / 10) 0).0 e in one_onto (suc k) n acc (omega arith)
    go false e t = last t

decimal_onto : (n : ℕ) → n < 2 ^ 128 → Onto 63 n [] (decimal n)
unfolding digits
decimal_onto n h = onto 63 n [] (let wide : 2 ^ 128 < 10 ^ 64 = lit< tt in omega arith)

pub decimal_numeral : (n : ℕ) → n < 2 ^ 128 → IsNumeral 10 (decimal n)
decimal_numeral n h = let o = decimal_onto n h in record { some = o.some; digits = o.passes refl }

pub decimal_value : (n : ℕ) → n < 2 ^ 128 → value 10 (decimal n) ≡ n
decimal_value n h = let o = decimal_onto n h in omega (arith, o.counts)

pub decimal_short : (n : ℕ) → n < 2 ^ 128 → is_short 10 (decimal n) ≡ true
decimal_short n h =
    let o = decimal_onto n h in
    let v = decimal_value n h in
    let l : length (decimal n) ≤ 128 = omega (arith, o.few) in
    let s : value 10 (decimal n) < 2 ^ 128 = omega (arith, v) in
    both (length (decimal n)) (value 10 (decimal n)) l s
  where
    both : (l v : ℕ) → l ≤ 128 → v < 2 ^ 128 → (nat_le l 128 && nat_lt v (2 ^ 128)) ≡ true
    both l v a b = grind (arith, nat_tests)
