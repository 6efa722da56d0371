-- Digits that count zero.
use Rattle.std.proofs.Common.{◌≡◌, ℕ, ◌+◌, ◌<◌, ◌≤◌, List, length, take, get_or, true, false, ◌==◌, lit≤, sym, ap, ◌∙◌, arith}
use Rattle.std.proofs.lemmas.Bool.Decides.{nat_tests}
use Rattle.safl_word.specs.Numerals.{digit, value}
use Rattle.safl_word.proofs.NumeralsRead.{value_more, value_front, taken}

zero_test : (n : ℕ) → n ≡ 0 → true ≡ (n == 0)
zero_test n h = grind (arith, nat_tests)

more_test : (n : ℕ) → 1 ≤ n → false ≡ (n == 0)
more_test n h = grind (arith, nat_tests)

pub not_zero : (w : List ℕ) (i : ℕ) → i < length w → (digit (get_or w i 0) ≡ 0 → ⊥) → false ≡ (value 10 w == 0)
not_zero w i h ne = more_test (value 10 w) (omega (arith, value_more 10 w i h, value_front 10 w (i + 1) (lit≤ tt), some (digit (get_or w i 0)) ne))
  where
    some : (n : ℕ) → (n ≡ 0 → ⊥) → 1 ≤ n
    some n k = grind arith

pub zero_more : (w : List ℕ) (i : ℕ) → i < length w → value 10 (take i w) ≡ 0 → digit (get_or w i 0) ≡ 0 → value 10 (take (i + 1) w) ≡ 0
zero_more w i h z d = omega (arith, value_more 10 w i h, z, d)

pub all_zeros : (w : List ℕ) (i : ℕ) → i ≤ length w → length w ≤ i → value 10 (take i w) ≡ 0 → true ≡ (value 10 w == 0)
all_zeros w i le ge z = zero_test (value 10 w) (sym (ap (value 10) (taken w i le ge)) ∙ z)
