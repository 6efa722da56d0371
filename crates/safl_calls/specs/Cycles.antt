-- Events in cycles: what changes a unit in one cycle counts from the next one on.
use Rattle.std.specs.Prelude.{◌≡◌, ℕ, zero, suc, ◌<◌, ◌≤◌, List, [], ◌∷◌, ◌++◌, length}
use Rattle.safl_word.specs.Words.{Word}
use Rattle.safl_term.specs.Program.{Program, unit_for}
use Rattle.safl_term.specs.Meaning.{Main}
use Rattle.safl_term.specs.Readiness.{Returned}
use Rattle.safl_calls.specs.Machine.{Event, Accept, Finish, Return, LoopInto, opening, Legal, after_event, put}
use Rattle.safl_calls.specs.Span.{main_span}

-- The first cycle in which each unit may act, after an event of cycle c: a unit that starts, finishes or loops in this cycle may act
-- from the next one on.
abbrev pub since_event : Program → ℕ → (ℕ → ℕ) → Event → ℕ → ℕ
since_event C c since (Accept k) = put since (unit_for C k) (suc c)
since_event C c since (Finish f) = put since (C.unit f) (suc c)
since_event C c since (Return k) = since
since_event C c since (LoopInto h) = put since (C.unit h) (suc c)

-- the unit that acts may do so in cycle c: for an Accept it is that of the caller
abbrev pub MayAct : Program → ℕ → (ℕ → ℕ) → Event → Type 0
MayAct C c since (Accept zero) = Unit {0}
MayAct C c since (Accept (suc k)) = since (C.unit (C.caller (suc k))) ≤ c
MayAct C c since (Finish f) = since (C.unit f) ≤ c
MayAct C c since (Return k) = since (unit_for C k) ≤ c
MayAct C c since (LoopInto h) = since (C.unit h) ≤ c

-- the same for the events of a cycle, one after another
unfoldable pub since_events : Program → ℕ → (ℕ → ℕ) → List Event → ℕ → ℕ
since_events C c since [] = since
since_events C c since (e ∷ es) = since_events C c (since_event C c since e) es

unfoldable pub MayAll : Program → ℕ → (ℕ → ℕ) → List Event → Type 0
MayAll C c since [] = Unit {0}
MayAll C c since (e ∷ es) = MayAct C c since e × MayAll C c (since_event C c since e) es

-- the events of cycle c and of those after it
unfoldable pub InCycles : Program → ℕ → (ℕ → ℕ) → List (List Event) → Type 0
InCycles C c since [] = Unit {0}
InCycles C c since (es ∷ rest) = MayAll C c since es × InCycles C (suc c) (since_events C c since es) rest

-- all events, in order
unfoldable pub all_events : List (List Event) → List Event
all_events [] = []
all_events (es ∷ rest) = es ++ all_events rest

-- At the beginning each unit may act. If main has returned, it took more cycles than the span of its evaluation: counted from 0, the
-- last of them has the number of the span or a higher one.
abbrev pub NoSooner : Program → Type 0
NoSooner C =
    (args : List Word) (cycles : List (List Event)) → Legal C args opening (all_events cycles) → InCycles C 0 (λ u. 0) cycles
    → (v w : Word) (d : Main C args w) → (after_event C args opening (all_events cycles)).site 0 ≡ Returned v → main_span C args d < length cycles
