-- Registers that are equal where they exist.
use Rattle.safl_circuit.proofs.Common.{Choice, Program, Registers, many}
use Rattle.std.specs.Prelude.{◌≡◌, ℕ, ◌<◌, ◌≤◌, true}

pub record Same (C : Program) (P : Choice) (r q : Registers) : Type 0 where
  pub run : (u : ℕ) → r.run u ≡ q.run u
  pub fin : (u : ℕ) → r.fin u ≡ q.fin u
  pub res : (u : ℕ) → r.res u ≡ q.res u
  pub at : (f : ℕ) → f < C.functions → many C f ≡ true → r.at f ≡ q.at f
  pub arg : (f : ℕ) → f < C.functions → r.arg f ≡ q.arg f
  pub sent : (k : ℕ) → 0 < k → r.sent k ≡ q.sent k
  pub got : (k : ℕ) → 0 < k → r.got k ≡ q.got k
  pub keep : (k : ℕ) → 0 < k → k ≤ C.sites → P.kept k ≡ true → r.keep k ≡ q.keep k
