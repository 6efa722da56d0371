-- Counts for each function.
use Rattle.std.specs.Prelude.{◌≡◌, ℕ, ◌<◌, ◌==◌, List, length, map, count_by, slice_index}
use Rattle.std.specs.List.{range_with_len}
use Rattle.safl_term.specs.Program.{Program}

-- how many of the sites 1 to n call a function
abbrev pub calls_among : Program → ℕ → ℕ → ℕ
calls_among C n f = count_by (λ g. g == f) (map C.callee (range_with_len 1 n))

-- the table has for each function how many of the sites 1 to n call it
pub record AreCalls (C : Program) (n : ℕ) (calls : List ℕ) : Type 0 where
  pub count : length calls ≡ C.functions
  pub each : (f : ℕ) → f < C.functions → slice_index calls f ≡ calls_among C n f
