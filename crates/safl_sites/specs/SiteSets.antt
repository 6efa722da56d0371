-- Sets of sites, as bits.
use Rattle.std.specs.Prelude.{◌≡◌, ◌≢◌, ℕ, ◌/◌, ◌%◌, List, [], Bool, true, ◌==◌, ◌⊎◌, get_or}
use Rattle.std.specs.Int.{bit_at}
use Rattle.safl_sites.specs.declared.site_set.SiteSet.{SiteSet}

-- whether the number is in the set
unfoldable pub has : SiteSet → ℕ → Bool
has r k = bit_at (get_or r.words (k / 64) 0) (k % 64) == 1

abbrev pub Has : SiteSet → ℕ → Type 0
Has r k = has r k ≡ true

-- the empty set, for entries that do not exist
abbrev pub no_set : SiteSet
no_set = record { words = [] }

-- the number is in the set at this place of a table
abbrev pub HasAt : List SiteSet → ℕ → ℕ → Type 0
HasAt sets i k = Has (get_or sets i no_set) k

-- what held still holds, and what is new is exactly P
pub record Adds (old new P : Type 0) : Type 0 where
  pub splits : new → old ⊎ P
  pub stays : old → new
  pub joins : P → new

-- the numbers that join a set are exactly those of which P holds
abbrev pub Gains : SiteSet → SiteSet → (ℕ → Type 0) → Type 0
Gains old new P = (k : ℕ) → Adds (Has old k) (Has new k) (P k)

-- the number is in both sets, and is not `except`
pub record IsCommon (a b : SiteSet) (except k : ℕ) : Type 0 where
  pub differs : except ≢ k
  pub first : Has a k
  pub second : Has b k

-- some number other than `except` is in both sets
pub record Meets (a b : SiteSet) (except : ℕ) : Type 0 where
  pub other : ℕ
  pub differs : except ≢ other
  pub first : Has a other
  pub second : Has b other
