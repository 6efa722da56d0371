-- Decimal words are no flags, and say their number.
use Rattle.safl_command.proofs.Common.{IsUnhyphened, list_all}
use Rattle.std.proofs.Common.{◌≡◌, ℕ, List, [], ◌∷◌, length, Bool, true, Option, Some, None, ◌&&◌, subst}
use Rattle.std.specs.Prelude.{nat_le, nat_lt, if◌then◌else◌, ◌^◌}
use Rattle.std.specs.Cmp.{first_so, second_so}
use Rattle.safl_word.specs.Numerals.{value, is_digit}
use Rattle.safl_command.specs.Limits.{cycles_max}
use Rattle.safl_word.specs.Limits.{generated_max}
use Rattle.safl_command.specs.Values.{is_number, is_within}
use Rattle.safl_command.specs.Laws.{IsNumber, IsLimit, IsCount}

-- the number of a word that fits
abbrev pub number_if : Bool → List ℕ → Option ℕ
number_if fits word = if fits then Some (value 10 word) else None

pub number_unhyphened : (word : List ℕ) → IsNumber word → IsUnhyphened word
number_unhyphened [] h = absurd (cc)
number_unhyphened (c ∷ []) h = tt
number_unhyphened (c ∷ (d ∷ ds)) h = λ e.
    let cs : List ℕ = d ∷ ds in
    let digits : list_all (is_digit 10) (c ∷ cs) ≡ true =
    first_so (list_all (is_digit 10) (c ∷ cs)) (nat_le (length (c ∷ cs)) 20 && nat_lt (value 10 (c ∷ cs)) (2 ^ 64)) (second_so (nat_le 1 (length (c ∷ cs))) _ h) in
    let first : is_digit 10 c ≡ true = first_so (is_digit 10 c) (list_all (is_digit 10) cs) digits in
    let hyphen : is_digit 10 45 ≡ true = subst (λ (x : ℕ). is_digit 10 x ≡ true) e first in
    cc

within_number : (most : ℕ) (word : List ℕ) → is_within most word ≡ true → IsNumber word
within_number most word h = first_so (is_number word) (nat_le 1 (value 10 word) && nat_le (value 10 word) most) h

pub limit_unhyphened : (word : List ℕ) → IsLimit word → IsUnhyphened word
limit_unhyphened word h = number_unhyphened word (within_number cycles_max word h)

pub count_unhyphened : (word : List ℕ) → IsCount word → IsUnhyphened word
count_unhyphened word h = number_unhyphened word (within_number generated_max word h)
