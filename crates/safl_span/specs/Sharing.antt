-- Which functions are called whose units have arbiters.
use Rattle.std.specs.Prelude.{◌≡◌, ℕ, ◌<◌, ◌≤◌, List, Some, Bool, true, false, slice_get}
use Rattle.safl_term.specs.Program.{Program, unit_for}
use Rattle.safl_sites.specs.Plan.{Choice}

-- a site calls a unit with an arbiter, and its function is marked
pub record IsShared (C : Program) (P : Choice) (called : List Bool) : Type 0 where
  pub site : ℕ
  pub some : 0 < site
  pub within : site ≤ C.sites
  pub arbiter : P.arbiter (unit_for C site) ≡ true
  pub is_called : slice_get called (C.callee site) ≡ Some true

-- no site does so
abbrev pub AreUnshared : Program → Choice → List Bool → Type 0
AreUnshared C P called = (k : ℕ) → 0 < k → k ≤ C.sites → P.arbiter (unit_for C k) ≡ true → slice_get called (C.callee k) ≡ Some false
