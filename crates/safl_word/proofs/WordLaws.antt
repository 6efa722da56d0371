-- Slices, shifts and decimal digits.
use Rattle.safl_word.proofs.Common.{list_all-append, nat_tests}
use Rattle.std.proofs.Common.{◌≡◌, ℕ, ◌+◌, ◌-◌, ◌*◌, ◌/◌, ◌%◌, ◌^◌, ◌<◌, ◌≤◌, List, [], ◌∷◌, ◌++◌, true, cond, refl, sym, ◌∙◌, ap, subst, arith, decimal, length-append}
use Rattle.std.proofs.lemmas.Nat.{shr_split}
use Rattle.std.proofs.lemmas.Bool.{le-ltb}
use Rattle.std.proofs.lemmas.Fmt.{decimal_by_steps_wide, length-decimal-le_wide}
use Rattle.std.proofs.Math.Pow.{shr_mod}
use Rattle.std.proofs.Math.Nat.{div-one, pow-zero}
use Rattle.safl_word.specs.Words.{Word, IsWord}
use Rattle.safl_word.specs.declared.primitive.Primitive.TheVariants.{Cat, Bits, Shl, Shr}
use Rattle.safl_word.specs.Primitives.{apply_prim}
use Rattle.safl_word.specs.Numerals.{digit, is_digit, value, IsNumeral, IsBounded}
use Rattle.safl_word.proofs.NumeralsRead.{value-append}

abbrev word : ℕ → ℕ → Word
word w n = record { width = w; bits = n }

same_word : (v w m n : ℕ) → v ≡ w → m ≡ n → word v m ≡ word w n
same_word v w m n e f = λ i. word (e i) (f i)

pub slices_join : (a : Word) (k : ℕ) → IsWord a → 1 ≤ k → k < a.width
    → apply_prim Cat (apply_prim (Bits (a.width - 1) k) (a ∷ []) ∷ apply_prim (Bits (k - 1) 0) (a ∷ []) ∷ []) ≡ a
slices_join a k w some lt =
    let h : a.width - 1 - k + 1 ≡ a.width - k = omega arith in
    let l : k - 1 - 0 + 1 ≡ k = omega arith in
    let s : a.width - k + k ≡ a.width = omega arith in
    let f : a.bits < 2 ^ (a.width - k + k) = subst (λ n. a.bits < 2 ^ n) (sym s) w.fits in
    let x : (a.bits / 2 ^ k) % 2 ^ (a.width - 1 - k + 1) ≡ a.bits / 2 ^ k = ap (λ n. (a.bits / 2 ^ k) % 2 ^ n) h ∙ shr_mod (a.width - k) k f in
    let y : (a.bits / 2 ^ 0) % 2 ^ (k - 1 - 0 + 1) ≡ a.bits % 2 ^ k = (λ i. div-one a.bits i % 2 ^ l i) in
    let z : 2 ^ (k - 1 - 0 + 1) ≡ 2 ^ k = ap (λ n. 2 ^ n) l in
    same_word _ a.width _ a.bits (omega arith) ((λ i. x i * z i + y i) ∙ shr_split a.bits k)

pub shifts_out : (a b : Word) → a.width ≤ b.bits
    → (apply_prim Shl (a ∷ b ∷ []) ≡ record { width = a.width; bits = 0 }) × (apply_prim Shr (a ∷ b ∷ []) ≡ record { width = a.width; bits = 0 })
shifts_out a b le =
    let f = le-ltb b.bits a.width le in (
      ap (λ t. record { width = a.width; bits = cond t ((a.bits * 2 ^ b.bits) % 2 ^ a.width) 0 }) f,
      ap (λ t. record { width = a.width; bits = cond t (a.bits / 2 ^ b.bits) 0 }) f,
    )

pub one_digit : (n : ℕ) → n < 10 → is_digit 10 (48 + n) ≡ true
one_digit n lt = grind (arith, nat_tests)

pub digit_is : (n : ℕ) → n < 10 → digit (48 + n) ≡ n
digit_is n lt = grind (arith, nat_tests)

one_value : (n : ℕ) → n < 10 → value 10 ((48 + n) ∷ []) ≡ n
one_value n lt = rw (digit_is n lt, pow-zero 10) (omega arith)

Counts : ℕ → List ℕ → Type 0
Counts n w = IsNumeral 10 w × (value 10 w ≡ n)

counts_one : (n : ℕ) → n < 10 → Counts n ((48 + n) ∷ [])
unfolding Counts
counts_one n lt = (record { some = omega arith; digits = rw (one_digit n lt) refl }, one_value n lt)

counts_more : (n : ℕ) (w : List ℕ) → 10 ≤ n → Counts (n / 10) w → Counts n (w ++ ((48 + n % 10) ∷ []))
unfolding Counts
counts_more n w le h =
    let lt : n % 10 < 10 = omega arith in
    let v = value-append 10 w ((48 + n % 10) ∷ []) in
    let o = one_value (n % 10) lt in
    let p : 10 ^ 1 ≡ 10 = refl in (
      record {
        some = omega (arith, length-append w ((48 + n % 10) ∷ []));
        digits = rw (list_all-append (is_digit 10) w ((48 + n % 10) ∷ []), h.0.digits, one_digit (n % 10) lt) refl;
      },
      omega (arith, v, o, h.1),
    )

pub decimal_counts : (n : ℕ) → n < 2 ^ 128 → IsBounded 10 39 (2 ^ 128) (decimal n) × (value 10 (decimal n) ≡ n)
unfolding Counts
decimal_counts n lt =
    let c = decimal_by_steps_wide Counts counts_one counts_more n (omega arith) in
    let l = length-decimal-le_wide 39 n (omega arith) (omega arith) (omega arith) in
    (record { numeral = c.0; short = l; small = omega (arith, c.1) }, c.1)
