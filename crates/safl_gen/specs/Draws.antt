-- The numbers that follow from a seed, and what is drawn from them.
use Rattle.std.specs.Prelude.{ℕ, zero, suc, ◌/◌, ◌%◌, ◌^◌}
use Rattle.safl_word.specs.Naturals.{number_after}

-- the sequence of numbers of a seed: first its remainder, then the number after the one before
unfoldable pub nth_number : ℕ → ℕ → ℕ
nth_number seed zero = seed % 2 ^ 31
nth_number seed (suc n) = number_after (nth_number seed n)

-- Draw n, from 0, is what number n + 1 of the sequence has above its low 16 bits. The first number, the remainder, is not drawn from.
abbrev pub draw : ℕ → ℕ → ℕ
draw seed n = nth_number seed (suc n) / 65536
