-- Which sites are asked for during an evaluation.
use Rattle.std.specs.Prelude.{◌≡◌, ℕ, ◌≤◌, None, length, get_or}
use Rattle.safl_evaluate.specs.declared.wants.Wants.{Wants}

-- the site is between the first and the last one that were asked for
abbrev pub IsAsked : Wants → ℕ → Type 0
IsAsked w k = (w.first ≤ k) × (k ≤ w.last)

-- before and after an evaluation: only sites that were asked for may be wanted otherwise
pub record Asks (v w : Wants) : Type 0 where
  pub long : length w.each.items ≡ length v.each.items
  pub first : w.first ≤ v.first
  pub last : v.last ≤ w.last
  pub others : (k : ℕ) → (IsAsked w k → ⊥) → get_or w.each.items k None ≡ get_or v.each.items k None
