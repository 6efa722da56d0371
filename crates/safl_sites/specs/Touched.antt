-- The sets of the slots that a term uses.
use Rattle.std.specs.Prelude.{ℕ, ◌≤◌, List}
use Rattle.safl_term.specs.Terms.{Term, Terms}
use Rattle.safl_sites.specs.declared.site_set.SiteSet.{SiteSet}
use Rattle.safl_sites.specs.Kept.{Uses, UsesIn}
use Rattle.safl_sites.specs.SiteSets.{HasAt}

-- site k is in the set of a slot, from `low` on, that the term uses
pub record IsTouched (sets : List SiteSet) (low k : ℕ) (t : Term) : Type 0 where
  pub slot : ℕ
  pub from : low ≤ slot
  pub used : Uses slot t
  pub set : HasAt sets slot k

pub record IsTouchedIn (sets : List SiteSet) (low k : ℕ) (ts : Terms) : Type 0 where
  pub slot : ℕ
  pub from : low ≤ slot
  pub used : UsesIn slot ts
  pub set : HasAt sets slot k
