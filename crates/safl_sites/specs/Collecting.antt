-- Conflicts among the sites up to a number.
use Rattle.std.specs.Prelude.{◌≡◌, ◌≢◌, ℕ, ◌≤◌, List, length, Bool, true, false, get_or, ◌⊎◌, ◌↔◌}
use Rattle.safl_term.specs.Program.{Program, unit_for}
use Rattle.safl_sites.specs.declared.site_set.SiteSet.{SiteSet}
use Rattle.safl_sites.specs.Parallel.{ComesBefore}
use Rattle.safl_sites.specs.Peers.{IsSiteOf}
use Rattle.safl_sites.specs.SiteSets.{Has}

-- `later` is a site up to `top`, and `earlier` is another site of its unit that comes before it
pub record Collides (C : Program) (top later earlier : ℕ) : Type 0 where
  pub least : 1 ≤ later
  pub most : later ≤ top
  pub differs : later ≢ earlier
  pub peer : IsSiteOf C C.sites (unit_for C later) earlier
  pub before : ComesBefore C earlier later

-- two sites of unit u collide in this way
pub record HasCollision (C : Program) (top u : ℕ) : Type 0 where
  pub later : ℕ
  pub earlier : ℕ
  pub collides : Collides C top later earlier
  pub unit : unit_for C later ≡ u

-- site k is one of two that collide in this way
pub record InCollision (C : Program) (top k : ℕ) : Type 0 where
  pub later : ℕ
  pub earlier : ℕ
  pub collides : Collides C top later earlier
  pub one : (k ≡ later) ⊎ (k ≡ earlier)

pub record IsCollected (C : Program) (top : ℕ) (arbiters : List Bool) (kept : SiteSet) : Type 0 where
  pub count : length arbiters ≡ C.functions
  pub units : (u : ℕ) → (get_or arbiters u false ≡ true) ↔ HasCollision C top u
  pub sites : (k : ℕ) → Has kept k ↔ InCollision C top k
