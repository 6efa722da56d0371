-- Which bytes begin what.
use Rattle.safl_word.proofs.Common.{is_digit, nat_tests}
use Rattle.std.proofs.Common.{◌≡◌, ℕ, ◌≤◌, true, false, ◌==◌, arith}
use Rattle.safl_word.specs.Tokens.{is_blank, begins_name}

pub digit_low : (c : ℕ) → is_digit 10 c ≡ true → 48 ≤ c
digit_low c h = grind (arith, nat_tests)

pub digit_high : (c : ℕ) → is_digit 10 c ≡ true → c ≤ 57
digit_high c h = grind (arith, nat_tests)

pub name_not_digit : (c : ℕ) → begins_name c ≡ true → is_digit 10 c ≡ false
name_not_digit c h = grind (arith, nat_tests)

-- names and numbers begin with no blank and no slash
pub name_no_blank : (c : ℕ) → begins_name c ≡ true → is_blank c ≡ false
name_no_blank c h = grind (arith, nat_tests)

pub name_no_slash : (c : ℕ) → begins_name c ≡ true → (c == 47) ≡ false
name_no_slash c h = grind (arith, nat_tests)

pub digit_no_blank : (c : ℕ) → is_digit 10 c ≡ true → is_blank c ≡ false
digit_no_blank c h = let l = digit_low c h in let k = digit_high c h in bounded c l
  where
    bounded : (c : ℕ) → 48 ≤ c → is_blank c ≡ false
    bounded c l = grind (arith, nat_tests)

pub digit_no_slash : (c : ℕ) → is_digit 10 c ≡ true → (c == 47) ≡ false
digit_no_slash c h = let l = digit_low c h in bounded c l
  where
    bounded : (c : ℕ) → 48 ≤ c → (c == 47) ≡ false
    bounded c l = grind (arith, nat_tests)
