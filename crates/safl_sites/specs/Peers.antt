-- The sites of each unit, as sets.
use Rattle.std.specs.Prelude.{◌≡◌, ℕ, ◌≤◌, List, length, ◌↔◌}
use Rattle.safl_term.specs.Program.{Program, unit_for}
use Rattle.safl_sites.specs.declared.site_set.SiteSet.{SiteSet}
use Rattle.safl_sites.specs.SiteSets.{HasAt}

-- site k, which is at most `top`, calls unit u
pub record IsSiteOf (C : Program) (top u k : ℕ) : Type 0 where
  pub least : 1 ≤ k
  pub most : k ≤ top
  pub unit : unit_for C k ≡ u

pub record ArePeers (C : Program) (top : ℕ) (peers : List SiteSet) : Type 0 where
  pub count : length peers ≡ C.functions
  pub sets : (u k : ℕ) → HasAt peers u k ↔ IsSiteOf C top u k
