-- Plans: which units have arbiters, and which sites keep their words.
use Rattle.std.specs.Prelude.{◌≡◌, ℕ, ◌<◌, ◌≤◌, Bool, true, ◌↔◌}
use Rattle.safl_term.specs.Program.{Program, unit_for}
use Rattle.safl_sites.specs.Conflicts.{Conflict}
use Rattle.safl_sites.specs.Kept.{Kept}

-- which units have arbiters, and which sites keep their words
pub record Choice : Type 0 where
  pub arbiter : ℕ → Bool
  pub kept : ℕ → Bool

-- `arbiter` says exactly which units need an arbiter, since two of their sites conflict, and `kept` exactly which sites keep their words
pub record IsPlan (C : Program) (arbiter kept : ℕ → Bool) : Type 0 where
  pub arbiters : (u : ℕ) → (arbiter u ≡ true) ↔ ((j : ℕ) × (k : ℕ) × Conflict C j k × (unit_for C j ≡ u))
  pub keeps : (k : ℕ) → 0 < k → k ≤ C.sites → (kept k ≡ true) ↔ Kept C k

-- each unit that needs an arbiter has one, and each site that has to keep its word keeps it
pub record Suffices (C : Program) (arbiter kept : ℕ → Bool) : Type 0 where
  pub arbiters : (j k : ℕ) → Conflict C j k → arbiter (unit_for C j) ≡ true
  pub keeps : (k : ℕ) → 0 < k → k ≤ C.sites → Kept C k → kept k ≡ true

-- ---- parts by name

abbrev pub HasArbiter : Program → ℕ → Type 0
HasArbiter C u = (j : ℕ) × (k : ℕ) × Conflict C j k × (unit_for C j ≡ u)
