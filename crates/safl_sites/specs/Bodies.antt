-- The sites of a body that keep their words for its conditions and bindings.
use Rattle.std.specs.Prelude.{◌≡◌, ◌≢◌, ℕ, ◌≤◌, ◌<◌, List, length, replicate, false, get_or, ◌⊎◌, ◌↔◌}
use Rattle.safl_term.specs.Program.{Program, unit_for, arity}
use Rattle.safl_sites.specs.declared.keep.Keeping.{Keeping}
use Rattle.safl_sites.specs.declared.site_set.SiteSet.{SiteSet}
use Rattle.safl_sites.specs.Conflicts.{Reaches}
use Rattle.safl_sites.specs.Kept.{Decides, Held}
use Rattle.safl_sites.specs.Reach.{IsInReach}
use Rattle.safl_sites.specs.SiteSets.{Has, HasAt, Meets, no_set}

-- the set of each unit has the sites in reach of the unit
pub record UnitTable (C : Program) (units : List SiteSet) : Type 0 where
  pub count : length units ≡ C.functions
  pub sets : (u k : ℕ) → HasAt units u k ↔ IsInReach C u k

-- as a walk found, the site is held, or it decides a condition and another site of its unit is in reach
abbrev pub MustKeep : Program → SiteSet → List SiteSet → Keeping → ℕ → Type 0
MustKeep C reach peers keeps k = Has keeps.held k ⊎ (Has keeps.decides k × Meets reach (get_or peers (unit_for C k) no_set) k)

-- the site has to keep its word, and is one of those from `from` to `till`
pub record IsOwnKept (C : Program) (reach : SiteSet) (peers : List SiteSet) (keeps : Keeping) (from till k : ℕ) : Type 0 where
  pub from_on : from ≤ k
  pub before : k < till
  pub must : MustKeep C reach peers keeps k

-- the site is in the body of g, and decides a condition or is held there because of another site of its unit
pub record IsBodyKept (C : Program) (g k : ℕ) : Type 0 where
  pub least : 1 ≤ k
  pub most : k ≤ C.sites
  pub caller : C.caller k ≡ g
  pub because : ℕ
  pub other : k ≢ because
  pub same : unit_for C k ≡ unit_for C because
  pub why : (Decides k (replicate (arity C g) false) (C.body g) × Reaches C because (C.body g)) ⊎ Held C k because (replicate (arity C g) false) (C.body g)

-- the site has to keep its word for a body below g
pub record IsKeptBelow (C : Program) (g k : ℕ) : Type 0 where
  pub body : ℕ
  pub is_body : body < g
  pub kept : IsBodyKept C body k
