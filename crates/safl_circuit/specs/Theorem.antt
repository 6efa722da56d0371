-- The main theorem: a netlist with the scheme of a well-formed program computes what the program means.
use Rattle.std.specs.Prelude.{◌≡◌, ℕ, ◌*◌, ◌<◌, ◌≤◌, List, length}
use Rattle.safl_word.specs.Words.{Word, widths}
use Rattle.safl_term.specs.Program.{Program}
use Rattle.safl_term.specs.Meaning.{Main, main_cost}
use Rattle.safl_term.specs.WellFormed.{IsWellFormed}
use Rattle.safl_term.specs.Fuel.{GivesInCalls}
use Rattle.safl_sites.specs.Plan.{Suffices, Choice}
use Rattle.safl_calls.specs.Interference.{OneInUse, ShownWordsServe}
use Rattle.safl_circuit.specs.Blind.{DoneIsBlind}
use Rattle.safl_circuit.specs.Equations.{Registers}
use Rattle.safl_circuit.specs.Steps.{Quiet, StepsAt}
use Rattle.safl_net.specs.Netlist.{Netlist}
use Rattle.safl_net.specs.Valuations.{reset_state}
use Rattle.safl_net.specs.Whole.{IsWhole}
use Rattle.safl_term.specs.Names.{Names}
use Rattle.safl_circuit.specs.Scheme.{Scheme}
use Rattle.safl_circuit.specs.Correct.{Behaves, Correct, DoneIn, EachRun, IsExact, NoSooner, IsOnTime, IsSpan, IsQuietState, Steps, QuietAfterDone, SameCalls, latest}

-- In runs from a state: `done` comes once, in time, with main's value, and never if main has none. No unit starts while it runs,
-- or twice at once. It comes in no cycle before that of the span, and in exactly that cycle if no call waits. If no two calls can
-- overlap, its cycle is known. After `done` all is quiet. The argument registers show the calls of the evaluation.
pub record Runs (C : Program) (D : Names) (n : Netlist) (state : ℕ → ℕ) : Type 0 where
  pub behaves : Behaves C D n state
  pub exact : IsExact C n state
  pub no_sooner : NoSooner C n state
  pub on_time : IsOnTime C n state
  pub quiet : QuietAfterDone C D n state
  pub calls : SameCalls C D n state

-- This holds from reset and from every quiet state; and from reset the cycles are steps of the machine. If main's
-- evaluation calls no function at a unit with an arbiter, `done` comes in exactly the cycle of the span.
-- Where each body keeps labels of what is public, its cycle depends on public arguments alone, and not on the quiet state.
pub record IsCircuit (C : Program) (D : Names) (P : Choice) (n : Netlist) : Type 0 where
  pub correct : Correct C D n
  pub steps : Steps C D P n
  pub first : Runs C D n (reset_state n)
  pub again : (state : ℕ → ℕ) → IsQuietState C D n state → Runs C D n state
  pub span : (state : ℕ → ℕ) → IsQuietState C D n state → IsSpan C P n state
  pub blind : DoneIsBlind C D n

-- for all choices of arbiters and kept words that the states of the machine allow
abbrev pub ServingSchemesAreCircuits : Type 0
ServingSchemesAreCircuits =
    (C : Program) (D : Names) (P : Choice) (n : Netlist) → IsWellFormed C → OneInUse C P.arbiter → ShownWordsServe C P.kept → Scheme C D P n → IsCircuit C D P n

-- It is enough that each unit with sites in conflict has an arbiter, and each site that has to keep its word keeps it.
abbrev pub SchemesAreCircuits : Type 0
SchemesAreCircuits =
    (C : Program) (D : Names) (P : Choice) (n : Netlist) → IsWellFormed C → Suffices C P.arbiter P.kept → Scheme C D P n → IsCircuit C D P n

-- The cycles of the registers are events of the machine, from any quiet state and for all choices that the states of the machine
-- allow.
abbrev pub CyclesAreEvents : Type 0
CyclesAreEvents =
    (C : Program) (P : Choice) → IsWellFormed C → OneInUse C P.arbiter → ShownWordsServe C P.kept → (r0 : Registers) → Quiet r0
    → (args : List Word) → widths args ≡ C.params C.main → (later : ℕ → List Word) (c : ℕ) → StepsAt C P r0 args later c

-- a netlist with the scheme of a program is whole
abbrev pub SchemesAreWhole : Type 0
SchemesAreWhole = (C : Program) (D : Names) (P : Choice) (n : Netlist) → Scheme C D P n → IsWhole n

-- the last cycle in which `done` may come is below three cycles for each call
abbrev pub LatestIsSoon : Type 0
LatestIsSoon = (C : Program) (args : List Word) (v : Word) (d : Main C args v) → latest C args d < 3 * main_cost C args d

-- If main gives v in m calls, `done` is 1 in exactly one cycle of each run of 3m cycles or more from this state, the cycle is below 3m,
-- and the result then is v.
abbrev pub ComesBy : Program → Netlist → (ℕ → ℕ) → Type 0
ComesBy C n state = EachRun C n state (λ args vs. (v : Word) (m : ℕ) → GivesInCalls C args v m → 3 * m ≤ length vs → DoneIn n vs v (3 * m))

-- This holds of every netlist that is correct for the program, from reset, and of every one that behaves, from that state.
abbrev pub CorrectOnesCome : Type 0
CorrectOnesCome = (C : Program) (D : Names) (n : Netlist) → Correct C D n → ComesBy C n (reset_state n)

abbrev pub BehavedOnesCome : Type 0
BehavedOnesCome = (C : Program) (D : Names) (n : Netlist) (state : ℕ → ℕ) → Behaves C D n state → ComesBy C n state
