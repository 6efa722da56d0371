-- What was sent to a sink.
use Rattle.std.specs.Prelude.{ℕ, ◌≡◌, List, Option, ◌++◌, take}

-- what a sink tells: what was sent, if it tells that, and how often sending failed
pub record SinkState : Type 0 where
  pub sent : Option (List ℕ)
  pub faults : ℕ

-- these bytes were sent after those before
abbrev pub Sends : List ℕ → List ℕ → List ℕ → Type 0
Sends bytes old new = new ≡ old ++ bytes

-- a prefix of these bytes was sent after those before
abbrev pub SendsPart : List ℕ → List ℕ → List ℕ → Type 0
SendsPart bytes old new = (count : ℕ) × (new ≡ old ++ take count bytes)
