-- What is the same in two runs whose public arguments are equal.
use Rattle.std.specs.Prelude.{◌≡◌, ℕ, ◌<◌, List, Some, true, slice_get}
use Rattle.safl_word.specs.Words.{Word}
use Rattle.safl_term.specs.Names.{Names}
use Rattle.safl_term.specs.Program.{Program}
use Rattle.safl_term.specs.WellFormed.{IsWellFormed}
use Rattle.safl_calls.specs.Labels.{Labels, KeepsLabels, Alike}
use Rattle.safl_sites.specs.Plan.{Choice}
use Rattle.safl_net.specs.Netlist.{Netlist}
use Rattle.safl_net.specs.Valuations.{Valuation}
use Rattle.safl_circuit.specs.Correct.{EachRun, IsQuietState, is_done}
use Rattle.safl_circuit.specs.Equations.{Registers, many, ret}
use Rattle.safl_circuit.specs.Steps.{Quiet, registers_at}

-- each body keeps the labels, and the results of a unit's functions have the same one
pub record IsLabelling (C : Program) (L : Labels) : Type 0 where
  pub keeps : KeepsLabels C L
  pub grouped : (f g : ℕ) → C.unit f ≡ C.unit g → L.result f ≡ L.result g

-- The two hold the same, apart from words. In a unit that does not run, at may differ.
pub record SameControl (C : Program) (r q : Registers) : Type 0 where
  pub run : (u : ℕ) → r.run u ≡ q.run u
  pub fin : (u : ℕ) → r.fin u ≡ q.fin u
  pub at : (f : ℕ) → f < C.functions → many C f ≡ true → r.run (C.unit f) ≡ true → r.at f ≡ q.at f
  pub sent : (k : ℕ) → 0 < k → r.sent k ≡ q.sent k
  pub got : (k : ℕ) → 0 < k → r.got k ≡ q.got k

-- Two runs from quiet registers, whose arguments are equal where they are public, have the same control in every cycle, whatever words
-- the registers held at first, and whichever units have arbiters. So done comes in the same cycle.
abbrev pub ControlIsBlind : Type 0
ControlIsBlind =
    (C : Program) (P : Choice) (L : Labels) → IsWellFormed C → IsLabelling C L → (r0 q0 : Registers) → Quiet r0 → Quiet q0
    → (args other : List Word) → Alike (L.params C.main) args other → (later beside : ℕ → List Word) (c : ℕ)
    → SameControl C (registers_at C P r0 args later c) (registers_at C P q0 other beside c)
    × (ret C (registers_at C P r0 args later c) 0 ≡ ret C (registers_at C P q0 other beside c) 0)

-- Two runs of a netlist from quiet states, whose arguments are equal where they are public, have the same done in every cycle. So in a
-- session no call's time tells anything of the calls before it.
abbrev pub DoneIsBlind : Program → Names → Netlist → Type 0
DoneIsBlind C D n =
    (L : Labels) → IsLabelling C L → (s t : ℕ → ℕ) → IsQuietState C D n s → IsQuietState C D n t
    → EachRun C n s (λ args vs. EachRun C n t (λ other ws. Alike (L.params C.main) args other
    → (c : ℕ) (v w : Valuation) → slice_get vs c ≡ Some v → slice_get ws c ≡ Some w → is_done n v ≡ is_done n w))
