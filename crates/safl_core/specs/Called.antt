-- The units that the sites call.
use Rattle.std.specs.Prelude.{◌≡◌, ℕ, suc, ◌<◌, ◌≤◌, List, length, get_or}
use Rattle.safl_term.specs.Program.{Program, unit_for}

-- for each site, the unit that it calls
pub record AreCalled (C : Program) (units : List ℕ) : Type 0 where
  pub long : length units ≡ suc C.sites
  pub each : (k : ℕ) → k ≤ C.sites → get_or units k 0 ≡ unit_for C k
  pub within : (k : ℕ) → k ≤ C.sites → unit_for C k < C.functions
