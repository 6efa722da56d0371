-- Which bytes begin which piece.
use Rattle.safl_verilog.proofs.Common.{is_blank, is_digit, is_start, nat_tests}
use Rattle.std.proofs.Common.{◌≡◌, ℕ, Bool, true, false, refl, arith}
use Rattle.safl_verilog.proofs.Runs.{other_than}

-- a byte that passes a test that blanks fail is no blank
pub not_blank : (p : ℕ → Bool) (c : ℕ) → p c ≡ true → p 32 ≡ false → p 9 ≡ false → p 13 ≡ false → p 10 ≡ false → is_blank c ≡ false
not_blank p c h a b d e = rw (other_than p c 32 h a, other_than p c 9 h b, other_than p c 13 h d, other_than p c 10 h e) refl

pub digit_no_start : (c : ℕ) → is_digit 10 c ≡ true → is_start c ≡ false
digit_no_start c h = grind (arith, nat_tests)
