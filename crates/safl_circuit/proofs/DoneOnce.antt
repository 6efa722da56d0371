-- done comes once, in time, with main's value.
use Rattle.safl_circuit.proofs.Common.{Choice, Program, Returned, Word, unit_for}
use Rattle.std.specs.Prelude.{◌≡◌, ◌≢◌, ℕ, ◌<◌, ◌≤◌, List, true, false}
use Rattle.safl_circuit.specs.Equations.{Registers, ret, go}
use Rattle.safl_circuit.specs.Steps.{registers_at, input_at}
use Rattle.safl_calls.specs.Machine.{Event, opening, Enabled, Legal, after_event}
use Rattle.safl_calls.specs.Moves.{moves_count}

-- what the core gives where main has the value v: n is twice the calls less the loops
pub record Core (C : Program) (args : List Word) (v : Word) (n : ℕ) : Type 0 where
  pub value : (es : List Event) → Legal C args opening es → (w : Word) → (after_event C args opening es).site 0 ≡ Returned w → w ≡ v
  pub most : (es : List Event) → Legal C args opening es → moves_count es ≤ n
  pub lively : (es : List Event) → Legal C args opening es → ((w : Word) → (after_event C args opening es).site 0 ≡ Returned w → ⊥) → (e : Event) × Enabled C args (after_event C args opening es) e

pub record DoneOnce (C : Program) (P : Choice) (r0 : Registers) (args : List Word) (later : ℕ → List Word) (v : Word) (n : ℕ) : Type 0 where
  pub cycle : ℕ
  pub in_time : cycle < n
  pub done : ret C (registers_at C P r0 args later cycle) 0 ≡ true
  pub result : (registers_at C P r0 args later cycle).res (C.unit C.main) ≡ v
  pub once : (c : ℕ) → c ≢ cycle → ret C (registers_at C P r0 args later c) 0 ≡ false

-- in no cycle is a unit started while running, or by two sites at once
pub record Exclusive (C : Program) (P : Choice) (r0 : Registers) (args : List Word) (later : ℕ → List Word) (c : ℕ) : Type 0 where
  pub one : (j k : ℕ) → go C P (registers_at C P r0 args later c) (input_at args later c) j ≡ true → go C P (registers_at C P r0 args later c)
      (input_at args later c) k ≡ true → unit_for C j ≡ unit_for C k → j ≡ k
  pub rests : (k : ℕ) → go C P (registers_at C P r0 args later c) (input_at args later c) k ≡ true → (registers_at C P r0 args later c).run (unit_for C k) ≡ false
