-- The members of a unit, and the sites in their bodies.
use Rattle.std.specs.Prelude.{◌≡◌, ℕ, suc, ◌<◌, ◌≤◌}
use Rattle.safl_term.specs.Program.{Program}
use Rattle.safl_core.specs.declared.spans.Span.{Span}

-- the functions of unit u are those from u to this number, which is not one of them
pub record EndsMembers (C : Program) (u end : ℕ) : Type 0 where
  pub above : u ≤ end
  pub most : end ≤ C.functions
  pub members : (f : ℕ) → u ≤ f → f < end → C.unit f ≡ u
  pub all : (f : ℕ) → f < C.functions → C.unit f ≡ u → (u ≤ f) × (f < end)

-- the site is in the span
abbrev pub InSpan : Span → ℕ → Type 0
InSpan s k = (s.first ≤ k) × (k < s.end)

-- the span has exactly the sites in the bodies of the unit's functions
pub record IsSpan (C : Program) (u : ℕ) (s : Span) : Type 0 where
  pub least : 1 ≤ s.first
  pub order : s.first ≤ s.end
  pub most : s.end ≤ suc C.sites
  pub own : (k : ℕ) → s.first ≤ k → k < s.end → C.unit (C.caller k) ≡ u
  pub all : (k : ℕ) → 1 ≤ k → k ≤ C.sites → C.unit (C.caller k) ≡ u → (s.first ≤ k) × (k < s.end)
