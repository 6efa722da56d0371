-- A sink in memory.
use Rattle.std.specs.Prelude.{ℕ, ◌≡◌, ◌++◌, ◌/◌, List, length, take}
use Rattle.safl_io.specs.Calls.{Calls}

-- what was sent, the calls and the count of a sink in memory
pub record Sent : Type 0 where
  pub bytes : List ℕ
  pub calls : Calls
  pub faults : ℕ

-- what was sent after a put that failed: the first half of the piece, rounded down, was added
abbrev pub SendsHalf : List ℕ → List ℕ → List ℕ → Type 0
SendsHalf bytes old new = new ≡ old ++ take (length bytes / 2) bytes
