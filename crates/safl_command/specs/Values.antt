-- The values of a command's arguments.
use Rattle.std.specs.Prelude.{ℕ, List, [], ◌∷◌, length, Option, Some, None, Bool, false, ◌&&◌, ◌^◌, option_and_then, unwrap_or}
use Rattle.std.specs.Prelude.{nat_le, nat_lt, bytes_eq, if◌then◌else◌, codes}
use Rattle.std.specs.List.{list_all}
use Rattle.std.specs.Option.{option_map_or}
use Rattle.clap.specs.Words.{Row, first_of, all_of}
use Rattle.safl_word.specs.Numerals.{value, is_digit}
use Rattle.safl_command.specs.Limits.{cycles_max}
use Rattle.safl_word.specs.Limits.{generated_max, decimal_max}

-- the name, if it is not empty
abbrev pub filled : List ℕ → Option (List ℕ)
filled [] = None
filled (c ∷ cs) = Some (c ∷ cs)

-- 1 to 20 digits of a number below 2^64
abbrev pub is_number : List ℕ → Bool
is_number word = nat_le 1 (length word) && (list_all (is_digit 10) word && (nat_le (length word) decimal_max && nat_lt (value 10 word) (2 ^ 64)))

-- 1 to 20 digits of a number from 1 to `most`
abbrev pub is_within : ℕ → List ℕ → Bool
is_within most word = is_number word && (nat_le 1 (value 10 word) && nat_le (value 10 word) most)

abbrev pub number_of : List ℕ → Option ℕ
number_of word = if is_number word then Some (value 10 word) else None

abbrev pub number_within : ℕ → List ℕ → Option ℕ
number_within most word = if is_within most word then Some (value 10 word) else None

-- what an argument gives, from its first value: a name; a decimal number, as a seed or the number of a site; a number of cycles or
-- events; a number of functions; and whether a flag is given
abbrev pub name_from : Option (List ℕ) → Option (List ℕ)
name_from = option_and_then filled

abbrev pub number_from : Option (List ℕ) → Option ℕ
number_from = option_and_then number_of

abbrev pub limit_from : Option (List ℕ) → Option ℕ
limit_from = option_and_then (number_within cycles_max)

abbrev pub count_from : Option (List ℕ) → Option ℕ
count_from = option_and_then (number_within generated_max)

abbrev pub is_set : Option (List ℕ) → Bool
is_set word = option_map_or (λ w. bytes_eq w (codes "true")) word false

-- the same, of the argument with this name
abbrev pub name_in : List ℕ → List Row → Option (List ℕ)
name_in id rows = name_from (first_of id rows)

abbrev pub number_in : List ℕ → List Row → Option ℕ
number_in id rows = number_from (first_of id rows)

abbrev pub limit_in : List ℕ → List Row → Option ℕ
limit_in id rows = limit_from (first_of id rows)

abbrev pub count_in : List ℕ → List Row → Option ℕ
count_in id rows = count_from (first_of id rows)

abbrev pub has_flag : List ℕ → List Row → Bool
has_flag id rows = is_set (first_of id rows)

-- the words of an argument that takes any number of them
abbrev pub args_in : List Row → List (List ℕ)
args_in rows = unwrap_or (all_of (codes "ARG") rows) []
