-- Numbers, as they are read.
use Rattle.std.specs.Prelude.{ℕ, List, Option, None, Some, if◌then◌else◌}
use Rattle.safl_word.specs.Words.{Word}
use Rattle.safl_word.specs.Numerals.{value}
use Rattle.safl_verilog.specs.Faults.{is_short, is_literal, literal_width, literal_value}

-- the number of some digits, if they are few enough and the number is small enough
abbrev pub bounded_value : ℕ → List ℕ → Option ℕ
bounded_value base w = if is_short base w then Some (value base w) else None

-- the word of a literal that keeps the rules
abbrev pub literal_word : List ℕ → Option Word
literal_word w = if is_literal w then Some (record { width = literal_width w; bits = literal_value w }) else None
