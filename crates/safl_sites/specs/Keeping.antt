-- What a walk down a term finds about sites that keep their words, slot by slot.
use Rattle.std.specs.Prelude.{◌≡◌, ◌≢◌, ℕ, ◌≤◌, List, ◌++◌, length, map, Bool, true}
use Rattle.safl_term.specs.Program.{Program, unit_for}
use Rattle.safl_term.specs.Terms.{Term, Terms}
use Rattle.safl_sites.specs.declared.keep.Keeping.{Keeping}
use Rattle.safl_sites.specs.declared.site_set.SiteSet.{SiteSet}
use Rattle.safl_sites.specs.Kept.{feeds, feeds_any, feeds_each, Decides, DecidesIn, InBody, Held, HeldIn}
use Rattle.safl_sites.specs.Parts.{terms_in}
use Rattle.safl_sites.specs.Peers.{ArePeers}
use Rattle.safl_sites.specs.Reach.{MayReach, MayReachIn}
use Rattle.safl_sites.specs.SiteSets.{has, Has, Adds}
use Rattle.safl_sites.specs.Touched.{IsTouched}

-- for each slot, whether its set has the site
abbrev pub fed_by : ℕ → List SiteSet → List Bool
fed_by k sets = map (λ r. has r k) sets

-- site k is held in the term because of another site of its unit
pub record IsHeld (C : Program) (k : ℕ) (fe : List Bool) (t : Term) : Type 0 where
  pub other : ℕ
  pub differs : k ≢ other
  pub same : unit_for C k ≡ unit_for C other
  pub held : Held C k other fe t

pub record IsHeldIn (C : Program) (k : ℕ) (fe : List Bool) (ts : Terms) : Type 0 where
  pub other : ℕ
  pub differs : k ≢ other
  pub same : unit_for C k ≡ unit_for C other
  pub held : HeldIn C k other fe ts

-- site k is in the set of a slot, from `low` on, that the body of a let uses, and the body has another site of its unit in reach
pub record IsHeldHere (C : Program) (sets : List SiteSet) (low k : ℕ) (body : Term) : Type 0 where
  pub other : ℕ
  pub differs : k ≢ other
  pub same : unit_for C k ≡ unit_for C other
  pub touched : IsTouched sets low k body
  pub reached : InBody C other body

-- the sites of the program that join a set are exactly those that are held here
abbrev pub HoldsHere : Program → List SiteSet → ℕ → Term → SiteSet → SiteSet → Type 0
HoldsHere C sets low body old new = (k : ℕ) → 1 ≤ k → k ≤ C.sites → Adds (Has old k) (Has new k) (IsHeldHere C sets low k body)

pub record MayKeep (C : Program) (units peers : List SiteSet) (slots : ℕ) (t : Term) : Type 0 where
  pub reach : MayReach C units slots t
  pub sites : ArePeers C C.sites peers

pub record MayKeepIn (C : Program) (units peers : List SiteSet) (slots : ℕ) (ts : Terms) : Type 0 where
  pub reach : MayReachIn C units slots ts
  pub sites : ArePeers C C.sites peers

-- what a walk down a term adds to the sites that feed it, to those that decide, and to those that are held
pub record Walks (C : Program) (sets : List SiteSet) (f g : SiteSet) (a b : Keeping) (t : Term) : Type 0 where
  pub fed : (k : ℕ) → Adds (Has f k) (Has g k) (feeds k (fed_by k sets) t ≡ true)
  pub decided : (k : ℕ) → Adds (Has a.decides k) (Has b.decides k) (Decides k (fed_by k sets) t)
  pub kept : (k : ℕ) → 1 ≤ k → k ≤ C.sites → Adds (Has a.held k) (Has b.held k) (IsHeld C k (fed_by k sets) t)

pub record WalksIn (C : Program) (sets : List SiteSet) (f g : SiteSet) (a b : Keeping) (ts : Terms) : Type 0 where
  pub fed : (k : ℕ) → Adds (Has f k) (Has g k) (feeds_any k (fed_by k sets) ts ≡ true)
  pub decided : (k : ℕ) → Adds (Has a.decides k) (Has b.decides k) (DecidesIn k (fed_by k sets) ts)
  pub kept : (k : ℕ) → 1 ≤ k → k ≤ C.sites → Adds (Has a.held k) (Has b.held k) (IsHeldIn C k (fed_by k sets) ts)

-- the slots get a set for each binding
pub record Binds (C : Program) (sets next : List SiteSet) (a b : Keeping) (ts : Terms) : Type 0 where
  pub bound : List SiteSet
  pub joined : next ≡ sets ++ bound
  pub count : length bound ≡ terms_in ts
  pub fed : (k : ℕ) → fed_by k bound ≡ feeds_each k (fed_by k sets) ts
  pub decided : (k : ℕ) → Adds (Has a.decides k) (Has b.decides k) (DecidesIn k (fed_by k sets) ts)
  pub kept : (k : ℕ) → 1 ≤ k → k ≤ C.sites → Adds (Has a.held k) (Has b.held k) (IsHeldIn C k (fed_by k sets) ts)
