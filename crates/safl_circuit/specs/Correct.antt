-- What a netlist does in its runs, by its ports and names.
use Rattle.std.specs.Prelude.{◌≡◌, ◌≢◌, ℕ, zero, suc, ◌+◌, ◌-◌, ◌*◌, ◌<◌, ◌≤◌, List, [], ◌∷◌, ◌++◌, map, length, Option, Some, None, Bool, true, cond, is_some, slice_get, codes, ◌==◌, ◌&&◌, ◌||◌}
use Rattle.std.specs.List.{zip}
use Rattle.safl_term.specs.Names.{Names}
use Rattle.std.specs.List.Sorted.{IsPermutation}
use Rattle.safl_word.specs.Words.{Word, as_word}
use Rattle.safl_term.specs.Program.{Program, unit_for}
use Rattle.safl_term.specs.Meaning.{Main, main_cost, main_calls, loops}
use Rattle.safl_term.specs.WellFormed.{AreWordsOf}
use Rattle.safl_sites.specs.Conflicts.{IsSequential}
use Rattle.safl_calls.specs.Machine.{Event, opening, Legal, after_event, last_word}
use Rattle.safl_calls.specs.Picks.{first}
use Rattle.safl_calls.specs.Span.{main_span}
use Rattle.safl_net.specs.Netlist.{Netlist}
use Rattle.safl_net.specs.Valuations.{Valuation, read, read_output, IsAcyclic, reset_state}
use Rattle.safl_net.specs.Runs.{RunFrom}
use Rattle.safl_sites.specs.Plan.{Choice}
use Rattle.safl_circuit.specs.Steps.{Shows, Quiet}
use Rattle.safl_circuit.specs.Layout.{each_line, input_kind, register_kind, wire_kind, output_lines, IsLineOf}
use Rattle.safl_circuit.specs.Names.{of_function, one, numbers, registers_now, registers_in, of_site}
use Rattle.safl_circuit.specs.Scheme.{go_up, net_events}

-- a statement holds for all arguments of main's widths, and all runs with them from a state
abbrev pub EachRun : Program → Netlist → (ℕ → ℕ) → (List Word → List Valuation → Type 0) → Type 0
EachRun C n state Q =
    (args : List Word) → AreWordsOf args (C.params C.main) → (vs : List Valuation) → RunFrom n state (numbers args) vs → Q args vs

-- a statement holds for each cycle of all such runs
abbrev pub EachCycle : Program → Netlist → (ℕ → ℕ) → (List Word → ℕ → Valuation → Type 0) → Type 0
EachCycle C n state Q = EachRun C n state (λ args vs. (c : ℕ) (w : Valuation) → slice_get vs c ≡ Some w → Q args c w)

abbrev pub is_done : Netlist → Valuation → ℕ
is_done n v = read_output n v (codes "done")

-- `done` is 1 in exactly one of the cycles, which is below the bound, and the result then is this word
pub record DoneIn (n : Netlist) (vs : List Valuation) (v : Word) (bound : ℕ) : Type 0 where
  pub cycle : ℕ
  pub in_time : cycle < bound
  pub words : Valuation
  pub there : slice_get vs cycle ≡ Some words
  pub done : is_done n words ≡ 1
  pub result : read_output n words (codes "result") ≡ v.bits
  pub once : (c : ℕ) (w : Valuation) → slice_get vs c ≡ Some w → c ≢ cycle → is_done n w ≡ 0

-- the last cycle in which `done` may come: two cycles for each call of the evaluation, less one for each loop
abbrev pub latest : (C : Program) (args : List Word) {v : Word} → Main C args v → ℕ
latest C args d = 2 * main_cost C args d - loops C d

-- Main gives the word in m calls, of which l are loops, and the cycle is at most 2m - l, so below 3m; and it bounds the number of calls.
pub record IsResult (C : Program) (args : List Word) (v : Word) (cycle : ℕ) : Type 0 where
  pub by : Main C args v
  pub prompt : cycle ≤ latest C args by
  pub soon : cycle < 3 * main_cost C args by
  pub few : main_cost C args by ≤ C.functions * (cycle + 1)

-- such a result; and if no two calls of the program can overlap, the cycle is exactly 2m - l
pub record IsExactResult (C : Program) (args : List Word) (v : Word) (cycle : ℕ) : Type 0 where
  pub result : IsResult C args v cycle
  pub exact : IsSequential C → cycle ≡ latest C args result.by

-- what all runs from a state do
pub record Behaves (C : Program) (D : Names) (n : Netlist) (state : ℕ → ℕ) : Type 0 where
  -- if main gives v by an evaluation of m calls of which l are loops, `done` comes once, in no cycle after 2m - l, with the result v
  pub prompt : EachRun C n state (λ args vs. (v : Word) (d : Main C args v) → latest C args d < length vs → DoneIn n vs v (suc (latest C args d)))
  -- if `done` comes, the result in that cycle is main's
  pub only : EachCycle C n state (λ args c w. is_done n w ≡ 1 → IsResult C args (as_word (C.result C.main) (read_output n w (codes "result"))) c)
  -- no unit is started by two sites at once, where site 0 is the call of main from outside
  pub alone : EachCycle C n state (λ args c w. (j k : ℕ) → j ≤ C.sites → k ≤ C.sites
      → go_up n w j ≡ true → go_up n w k ≡ true → unit_for C j ≡ unit_for C k → j ≡ k)
  -- no unit is started while it runs
  pub rests : EachCycle C n state (λ args c w. (k : ℕ) → k ≤ C.sites → go_up n w k ≡ true → read n w (of_function D (codes "run$") (unit_for C k)) ≢ 1)

-- The netlist is acyclic, has the ports of the program, and behaves in all runs from reset. What this speaks of is there, with width 1.
pub record Correct (C : Program) (D : Names) (n : Netlist) : Type 0 where
  pub acyclic : IsAcyclic n
  pub inputs : each_line input_kind n.signals ≡ (codes "start", 1) ∷ zip (map (λ (x : List ℕ). codes "in$" ++ x) (D.params C.main)) (C.params C.main)
  pub outputs : output_lines n ≡ (codes "done", 1) ∷ (codes "result", C.result C.main) ∷ []
  pub running : (f : ℕ) → f < C.functions → IsLineOf (of_function D (codes "run$") (C.unit f), 1) (each_line register_kind n.signals)
  pub starting : (k : ℕ) → 0 < k → k ≤ C.sites → IsLineOf (of_site (codes "go$") k, 1) (each_line wire_kind n.signals)
  pub starting_main : IsLineOf (codes "go$main", 1) (each_line wire_kind n.signals)
  pub behaves : Behaves C D n (reset_state n)

-- a state of the netlist whose registers are quiet
abbrev pub IsQuietState : Program → Names → Netlist → (ℕ → ℕ) → Type 0
IsQuietState C D n state = Quiet (registers_in C D n state)

-- The cycles of a run are steps of the machine, after these events: the registers show its state, each res holds the word that
-- its unit finished last, or 0, and the events of the cycle are enabled in turn.
abbrev pub StepsFrom : Program → Names → Choice → Netlist → List Word → List Event → List Valuation → Type 0
StepsFrom C D P n args es [] = Unit {0}
StepsFrom C D P n args es (v ∷ vs) =
    Shows C P (after_event C args opening es) (registers_now C D n v)
    × ((u : ℕ) → (registers_now C D n v).res u ≡ last_word C args opening es u (as_word (C.result u) 0))
    × Legal C args opening (es ++ net_events C D n v)
    × StepsFrom C D P n args (es ++ net_events C D n v) vs

-- the cycles of all runs from reset are steps of the machine, from its opening state
abbrev pub Steps : Program → Names → Choice → Netlist → Type 0
Steps C D P n = EachRun C n (reset_state n) (λ args vs. StepsFrom C D P n args [] vs)

-- in each cycle after one with `done` the registers are quiet
abbrev pub QuietAfterDone : Program → Names → Netlist → (ℕ → ℕ) → Type 0
QuietAfterDone C D n state =
    EachRun C n state (λ args vs. (a c : ℕ) (v w : Valuation) → slice_get vs a ≡ Some v → slice_get vs c ≡ Some w
    → is_done n v ≡ 1 → a < c → Quiet (registers_now C D n w))

-- whether a go wire of a site that calls f is 1, or the loop wire of f, in a cycle
abbrev pub is_started : Program → Names → Netlist → Valuation → ℕ → Bool
is_started C D n v f =
    is_some (first {A = ℕ} (λ k. cond (C.callee k == f && go_up n v k) (Some k) None) (suc C.sites))
    || one (read n v (of_function D (codes "loop$") f))

-- where no two calls of the program can overlap, done comes in the last cycle in which it may
abbrev pub IsExact : Program → Netlist → (ℕ → ℕ) → Type 0
IsExact C n state =
    IsSequential C → EachCycle C n state (λ args c w. is_done n w ≡ 1 → (v : Word) (d : Main C args v) → c ≡ latest C args d)

-- done comes in no cycle before that of the span of main's evaluation
abbrev pub NoSooner : Program → Netlist → (ℕ → ℕ) → Type 0
NoSooner C n state = EachCycle C n state (λ args c w. is_done n w ≡ 1 → (v : Word) (d : Main C args v) → main_span C args d ≤ c)

-- in each cycle of a run in which the want wire of a site is 1, its go wire is 1 too: no call waits for a unit
abbrev pub NoneWaits : Program → Netlist → List Valuation → Type 0
NoneWaits C n vs =
    (c k : ℕ) (w : Valuation) → slice_get vs c ≡ Some w → 0 < k → k ≤ C.sites → one (read n w (of_site (codes "want$") k)) ≡ true → go_up n w k ≡ true

-- in a run in which no call waits, done comes in exactly the cycle of the span
abbrev pub IsOnTime : Program → Netlist → (ℕ → ℕ) → Type 0
IsOnTime C n state =
    EachRun C n state (λ args vs. NoneWaits C n vs → (c : ℕ) (w : Valuation) → slice_get vs c ≡ Some w → is_done n w ≡ 1
    → (v : Word) (d : Main C args v) → c ≡ main_span C args d)

-- the evaluation calls no function at a unit that has an arbiter
abbrev pub Unshared : (C : Program) → Choice → (args : List Word) {v : Word} → Main C args v → Type 0
Unshared C P args d = (k : ℕ) → 0 < k → k ≤ C.sites → P.arbiter (unit_for C k) ≡ true → main_calls C args d (C.callee k) ≡ []

-- if it calls none, done comes in exactly the cycle of the span
abbrev pub IsSpan : Program → Choice → Netlist → (ℕ → ℕ) → Type 0
IsSpan C P n state = EachCycle C n state (λ args c w. is_done n w ≡ 1 → (v : Word) (d : Main C args v) → Unshared C P args d → c ≡ main_span C args d)

-- the words of f's argument registers in the cycle after one that starts f
abbrev pub seen_at : Program → Names → Netlist → ℕ → Option Valuation → Option Valuation → List (List Word)
seen_at C D n f (Some v) (Some w) = cond (is_started C D n v f) ((registers_now C D n w).arg f ∷ []) []
seen_at C D n f _ _ = []

-- the words that f's argument registers show after those cycles before c that start f, in order
unfoldable pub words_seen_in : Program → Names → Netlist → List Valuation → ℕ → ℕ → List (List Word)
words_seen_in C D n vs f zero = []
words_seen_in C D n vs f (suc c) = words_seen_in C D n vs f c ++ seen_at C D n f (slice_get vs c) (slice_get vs (suc c))

-- if main has a value and the run is long enough, these words are the argument lists of the evaluation, in some order
abbrev pub SameCalls : Program → Names → Netlist → (ℕ → ℕ) → Type 0
SameCalls C D n state =
    EachRun C n state (λ args vs. (v : Word) (d : Main C args v) (c : ℕ) → c < length vs → latest C args d ≤ c
    → (f : ℕ) → f < C.functions → IsPermutation (main_calls C args d f) (words_seen_in C D n vs f c))

-- ---- parts by name

abbrev pub go_at : Program → Netlist → Valuation → ℕ → ℕ → Option ℕ
go_at C n v f k = cond (C.callee k == f && go_up n v k) (Some k) None
