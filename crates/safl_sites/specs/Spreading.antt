-- What comes before a site, handed on from the sites that call the unit of its function.
use Rattle.std.specs.Prelude.{◌≡◌, ℕ, suc, ◌≤◌, ◌<◌, List, length, ◌↔◌}
use Rattle.safl_term.specs.Program.{Program, unit_for}
use Rattle.safl_sites.specs.declared.site_set.SiteSet.{SiteSet}
use Rattle.safl_sites.specs.Filling.{StandsAfter}
use Rattle.safl_sites.specs.Parallel.{ComesBefore}
use Rattle.safl_sites.specs.SiteSets.{HasAt}

-- site j comes before a site after `todo` that calls the unit
pub record HandsDown (C : Program) (todo u j : ℕ) : Type 0 where
  pub site : ℕ
  pub later : todo < site
  pub most : site ≤ C.sites
  pub unit : unit_for C site ≡ u
  pub before : ComesBefore C j site

-- the sets of the sites after `todo` have what comes before them, and those of the units have what they hand on
pub record IsSpread (C : Program) (todo : ℕ) (sets handed : List SiteSet) : Type 0 where
  pub sets_count : length sets ≡ suc C.sites
  pub handed_count : length handed ≡ C.functions
  pub spread : (j k : ℕ) → todo < k → k ≤ C.sites → HasAt sets k j ↔ ComesBefore C j k
  pub left : (j k : ℕ) → k ≤ todo → HasAt sets k j ↔ StandsAfter C C.functions j k
  pub down : (u j : ℕ) → HasAt handed u j ↔ HandsDown C todo u j
