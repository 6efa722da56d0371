-- How registers show the state of the machine, cycle by cycle. Each cycle is a list of events.
use Rattle.std.specs.Prelude.{◌≡◌, ℕ, zero, suc, ◌<◌, ◌++◌, List, [], Bool, true, false, ◌==◌, not, is_some}
use Rattle.safl_sites.specs.Plan.{Choice}
use Rattle.safl_circuit.specs.Equations.{Registers, Inputs, many, next, cycle_events}
use Rattle.safl_calls.specs.Machine.{State, Mode, Runs, Delivers, Event, opening, Legal, after_event, last_word, is_unsent}
use Rattle.safl_term.specs.Readiness.{Stage, Returned, back_word}
use Rattle.safl_term.specs.Program.{Program}
use Rattle.safl_word.specs.Words.{Word}

abbrev pub is_running : Mode → Bool
is_running (Runs f k ws) = true
is_running _ = false

abbrev pub is_delivering : Mode → Bool
is_delivering (Delivers k v) = true
is_delivering _ = false

-- The registers show the state. run is 1 exactly for running units, and fin exactly for delivering ones, whose res holds the
-- word. In a running unit with several functions, at is 1 exactly for the one that runs, and its arguments are in its registers.
-- sent is 0 exactly for unsent sites, and got is 1 exactly for those that have returned; if such a site is kept, keep holds its
-- word. The sites of a function that does not run are neither sent nor returned.
pub record Shows (C : Program) (P : Choice) (s : State) (r : Registers) : Type 0 where
  pub run : (u : ℕ) → r.run u ≡ is_running (s.unit u)
  pub fin : (u : ℕ) → r.fin u ≡ is_delivering (s.unit u)
  pub res : (u k : ℕ) (v : Word) → s.unit u ≡ Delivers k v → r.res u ≡ v
  pub at : (u f k : ℕ) (ws : List Word) → s.unit u ≡ Runs f k ws → (g : ℕ) → g < C.functions → C.unit g ≡ u → many C g ≡ true → r.at g ≡ (f == g)
  pub arg : (u f k : ℕ) (ws : List Word) → s.unit u ≡ Runs f k ws → r.arg f ≡ ws
  pub sent : (k : ℕ) → 0 < k → r.sent k ≡ not (is_unsent (s.site k))
  pub got : (k : ℕ) → 0 < k → r.got k ≡ is_some (back_word (s.site k))
  pub keep : (k : ℕ) (v : Word) → 0 < k → P.kept k ≡ true → s.site k ≡ Returned v → r.keep k ≡ v
  pub others : (k : ℕ) → 0 < k → ((j : ℕ) (args : List Word) → s.unit (C.unit (C.caller k)) ≡ Runs (C.caller k) j args → ⊥)
      → (r.sent k ≡ false) × (r.got k ≡ false)

-- Quiet registers: no unit runs or has just finished, and no site is sent or has returned. What else the registers hold is free.
pub record Quiet (r : Registers) : Type 0 where
  pub run : (u : ℕ) → r.run u ≡ false
  pub fin : (u : ℕ) → r.fin u ≡ false
  pub sent : (k : ℕ) → 0 < k → r.sent k ≡ false
  pub got : (k : ℕ) → 0 < k → r.got k ≡ false

-- the inputs of a run: `start` is 1 exactly in cycle 0, when the ports hold the arguments; later they hold any words
abbrev pub input_at : List Word → (ℕ → List Word) → ℕ → Inputs
input_at args later zero = record { start = true; words = args }
input_at args later (suc c) = record { start = false; words = later c }

-- the registers of cycle c, given those of cycle 0; and the events of the cycles before c
unfoldable pub registers_at : Program → Choice → Registers → List Word → (ℕ → List Word) → ℕ → Registers
registers_at C P r0 args later zero = r0
registers_at C P r0 args later (suc c) = next C P (input_at args later c) (registers_at C P r0 args later c)

unfoldable pub history : Program → Choice → Registers → List Word → (ℕ → List Word) → ℕ → List Event
unfolding registers_at
history C P r0 args later zero = []
history C P r0 args later (suc c) = history C P r0 args later c ++ cycle_events C P (registers_at C P r0 args later c) (input_at args later c)

-- The events of the cycles before c are legal, the registers of cycle c show the state that they lead to, and each res holds the
-- word that its unit finished last, or what it held in cycle 0.
pub record StepsAt (C : Program) (P : Choice) (r0 : Registers) (args : List Word) (later : ℕ → List Word) (c : ℕ) : Type 0 where
  pub legal : Legal C args opening (history C P r0 args later c)
  pub shows : Shows C P (after_event C args opening (history C P r0 args later c)) (registers_at C P r0 args later c)
  pub res : (u : ℕ) → (registers_at C P r0 args later c).res u ≡ last_word C args opening (history C P r0 args later c) u (r0.res u)

-- ---- parts by name

-- the site was sent, and may have returned
abbrev pub was_sent : Stage → Bool
was_sent x = not (is_unsent x)

abbrev pub is_returned : Stage → Bool
is_returned x = is_some (back_word x)
