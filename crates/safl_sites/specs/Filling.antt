-- The tables for the bodies of functions below a number.
use Rattle.std.specs.Prelude.{◌≡◌, ℕ, suc, ◌<◌, List, length, ◌↔◌}
use Rattle.safl_term.specs.Program.{Program}
use Rattle.safl_sites.specs.declared.site_set.SiteSet.{SiteSet}
use Rattle.safl_sites.specs.Conflicts.{Reaches}
use Rattle.safl_sites.specs.Parallel.{After}
use Rattle.safl_sites.specs.SiteSets.{HasAt}

-- site k is in reach of the body of a function of unit u that is below f
pub record ReachedBelow (C : Program) (f u k : ℕ) : Type 0 where
  pub member : ℕ
  pub is_member : member < f
  pub unit : C.unit member ≡ u
  pub reached : Reaches C k (C.body member)

-- in a body below f, site b comes after a parallel term with k in reach
pub record StandsAfter (C : Program) (f k b : ℕ) : Type 0 where
  pub body : ℕ
  pub is_body : body < f
  pub after : After C k b (C.body body)

-- the tables have what is in reach of each body below f, what is in reach of the bodies of each unit there, and what each site
-- there comes after
pub record IsFilled (C : Program) (f : ℕ) (bodies units after : List SiteSet) : Type 0 where
  pub bodies_count : length bodies ≡ C.functions
  pub units_count : length units ≡ C.functions
  pub after_count : length after ≡ suc C.sites
  pub body_sets : (g k : ℕ) → g < f → HasAt bodies g k ↔ Reaches C k (C.body g)
  pub unit_sets : (u k : ℕ) → HasAt units u k ↔ ReachedBelow C f u k
  pub after_sets : (k b : ℕ) → HasAt after b k ↔ StandsAfter C f k b
