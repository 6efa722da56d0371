-- Adapters over the system, which tell only their counts of faults.
use Rattle.std.specs.Prelude.{ℕ}

-- how often reading and writing failed
pub record FaultCounts : Type 0 where
  pub reads : ℕ
  pub writes : ℕ
