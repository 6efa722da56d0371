-- What the proofs use of a well-formed program.
use Rattle.std.specs.Prelude.{◌≡◌, ◌≢◌, ℕ, ◌<◌, ◌≤◌}
use Rattle.safl_term.specs.Program.{Program}
use Rattle.safl_term.specs.Standing.{Stands}
use Rattle.safl_term.proofs.Once.{Once, LoopsTo, Counted}

-- what well-formedness gives
pub record Numbered (C : Program) : Type 0 where
  pub outside : C.callee 0 ≡ C.main
  pub callee_in : (k : ℕ) → k ≤ C.sites → C.callee k < C.functions
  pub caller_in : (k : ℕ) → 0 < k → k ≤ C.sites → C.caller k < C.functions
  pub earlier : (k : ℕ) → 0 < k → k ≤ C.sites → C.unit (C.callee k) < C.unit (C.caller k)
  pub last : (f : ℕ) → f < C.functions → C.unit f ≤ C.unit C.main
  pub again : (f : ℕ) → f < C.functions → C.unit (C.unit f) ≡ C.unit f
  pub first : (f : ℕ) → f < C.functions → C.unit f ≤ f
  pub main_last : (k : ℕ) → 0 < k → k ≤ C.sites → C.unit (C.callee k) ≢ C.unit C.main
  pub own : (f k : ℕ) → f < C.functions → Stands k (C.body f) → (0 < k) × (k ≤ C.sites) × (C.caller k ≡ f)
  pub counted : (f : ℕ) → f < C.functions → Counted C (C.body f)
  pub once : (f : ℕ) → f < C.functions → Once (C.body f)
  pub loops : (f h : ℕ) → f < C.functions → LoopsTo h (C.body f) → (h < C.functions) × (C.unit h ≡ C.unit f)
