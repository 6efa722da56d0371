-- Binary digits, one or four more at a time.
use Rattle.std.proofs.Common.{◌≡◌, Bool, codes, ℕ, zero, suc, ◌+◌, ◌/◌, ◌%◌, ◌<◌, ◌≤◌, List, [], ◌∷◌, ◌++◌, map, refl, sym, ap, ◌∙◌, arith}
use Rattle.std.specs.Prelude.{if◌then◌else◌}
use Rattle.std.proofs.Math.Dec.{eqb-suc-zero}
use Rattle.std.proofs.lemmas.List.{map-append}
use Rattle.std.proofs.lemmas.Int.Digits.{digits_of_step}
use Rattle.std.specs.Int.Digits.{digits_of}
use Rattle.safl_word.specs.Numerals.{binary}

binary_of : (n : ℕ) → 0 < n → binary n ≡ map (λ d. 48 + d) (digits_of 2 n)
binary_of zero pos = absurd (omega (arith, pos))
binary_of (suc n) pos = ap (λ (b : Bool). if b then codes "0" else map (λ d. 48 + d) (digits_of 2 (suc n))) (eqb-suc-zero n)

pub binary_more : (n : ℕ) → 2 ≤ n → binary n ≡ binary (n / 2) ++ (48 + n % 2) ∷ []
binary_more n many =
    binary_of n (omega (arith, many))
    ∙ ap (map (λ d. 48 + d)) (digits_of_step 2 n (omega arith) (omega (arith, many)))
    ∙ map-append (λ d. 48 + d) (digits_of 2 (n / 2)) (n % 2 ∷ [])
    ∙ ap (λ l. l ++ (48 + n % 2) ∷ []) (sym (binary_of (n / 2) (omega (arith, many))))

joined : (l : List ℕ) (a b c d : ℕ) → (((l ++ a ∷ []) ++ b ∷ []) ++ c ∷ []) ++ d ∷ [] ≡ l ++ a ∷ b ∷ c ∷ d ∷ []
joined [] a b c d = refl
joined (x ∷ l) a b c d = ap (λ t. x ∷ t) (joined l a b c d)

alike : (l m : List ℕ) (a b c d p q r s : ℕ) → l ≡ m → a ≡ p → b ≡ q → c ≡ r → d ≡ s → l ++ a ∷ b ∷ c ∷ d ∷ [] ≡ m ++ p ∷ q ∷ r ∷ s ∷ []
alike l m a b c d p q r s first e f g h = cc

pub binary_four : (n : ℕ) → 16 ≤ n → binary n ≡ binary (n / 16) ++ (48 + n % 16 / 8) ∷ (48 + n % 16 / 4 % 2) ∷ (48 + n % 16 / 2 % 2) ∷ (48 + n % 16 % 2) ∷ []
binary_four n many =
    let h : ℕ = n / 2 in
    let q : ℕ = h / 2 in
    let e : ℕ = q / 2 in
    let last : e / 2 ≡ n / 16 = omega arith in
    let a : 48 + e % 2 ≡ 48 + n % 16 / 8 = omega arith in
    let b : 48 + q % 2 ≡ 48 + n % 16 / 4 % 2 = omega arith in
    let c : 48 + h % 2 ≡ 48 + n % 16 / 2 % 2 = omega arith in
    let d : 48 + n % 2 ≡ 48 + n % 16 % 2 = omega arith in
    binary_more n (omega (arith, many))
    ∙ ap (λ l. l ++ (48 + n % 2) ∷ []) (binary_more h (omega (arith, many)))
    ∙ ap (λ l. (l ++ (48 + h % 2) ∷ []) ++ (48 + n % 2) ∷ []) (binary_more q (omega (arith, many)))
    ∙ ap (λ l. ((l ++ (48 + q % 2) ∷ []) ++ (48 + h % 2) ∷ []) ++ (48 + n % 2) ∷ []) (binary_more e (omega (arith, many)))
    ∙ joined (binary (e / 2)) (48 + e % 2) (48 + q % 2) (48 + h % 2) (48 + n % 2)
    ∙ alike (binary (e / 2)) (binary (n / 16)) (48 + e % 2) (48 + q % 2) (48 + h % 2) (48 + n % 2)
    (48 + n % 16 / 8) (48 + n % 16 / 4 % 2) (48 + n % 16 / 2 % 2) (48 + n % 16 % 2) (ap binary last) a b c d
