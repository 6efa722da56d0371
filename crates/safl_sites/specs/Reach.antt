-- The sites in reach of the bodies of a unit, as sets.
use Rattle.std.specs.Prelude.{◌≡◌, ℕ, ◌<◌, ◌≤◌, List, length, ◌↔◌}
use Rattle.safl_word.specs.Limits.{sites_max}
use Rattle.safl_term.specs.Program.{Program}
use Rattle.safl_term.specs.Terms.{Term, Terms}
use Rattle.safl_sites.specs.declared.site_set.SiteSet.{SiteSet}
use Rattle.safl_sites.specs.Conflicts.{Reaches}
use Rattle.safl_sites.specs.Parts.{IsPart, ArePart}
use Rattle.safl_sites.specs.SiteSets.{HasAt}

-- site k is in reach of the body of some function of unit u
pub record IsInReach (C : Program) (u k : ℕ) : Type 0 where
  pub member : ℕ
  pub is_member : member < C.functions
  pub unit : C.unit member ≡ u
  pub reached : Reaches C k (C.body member)

-- the set of each unit below u has the sites in reach of the unit
pub record ReachBelow (C : Program) (units : List SiteSet) (u : ℕ) : Type 0 where
  pub count : length units ≡ C.functions
  pub top : u < C.functions
  pub sets : (v k : ℕ) → v < u → HasAt units v k ↔ IsInReach C v k

-- A term of a body, with this many slots in scope. The sets of all units that the term may call are known.
pub record MayReach (C : Program) (units : List SiteSet) (slots : ℕ) (t : Term) : Type 0 where
  pub caller : ℕ
  pub part : IsPart C caller slots t
  pub below : ReachBelow C units (C.unit caller)
  pub few : C.sites ≤ sites_max

pub record MayReachIn (C : Program) (units : List SiteSet) (slots : ℕ) (ts : Terms) : Type 0 where
  pub caller : ℕ
  pub parts : ArePart C caller slots ts
  pub below : ReachBelow C units (C.unit caller)
  pub few : C.sites ≤ sites_max
