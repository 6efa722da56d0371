-- The laws of the call machine. They hold for every legal list of events.
use Rattle.std.specs.Prelude.{◌≡◌, ℕ, ◌+◌, ◌*◌, ◌<◌, ◌≤◌, List, length}
use Rattle.std.specs.List.Sorted.{IsPermutation}
use Rattle.safl_word.specs.Words.{Word, widths}
use Rattle.safl_term.specs.Program.{Program}
use Rattle.safl_term.specs.Readiness.{Unsent, Returned}
use Rattle.safl_term.specs.Meaning.{Main, main_cost, main_calls, loops}
use Rattle.safl_calls.specs.Machine.{Event, opening, Enabled, CallerRests, after_event, EachList}
use Rattle.safl_calls.specs.Starts.{starts_of, starts_count}
use Rattle.safl_calls.specs.Moves.{moves_count}

-- after these events main has returned v
abbrev pub HasReturned : Program → List Word → List Event → Word → Type 0
HasReturned C args es v = (after_event C args opening es).site 0 ≡ Returned v

-- A word that main has returned is main's value. The list then has three events for each call, less two for each tail call.
abbrev pub Right : Program → Type 0
Right C = EachList C (λ args es. (v : Word) → HasReturned C args es v → (d : Main C args v) × (length es + 2 * loops C d ≡ 3 * main_cost C args d))

-- If main has arguments of its parameters' widths, some event is enabled until main has returned.
abbrev pub GoesOn : Program → Type 0
GoesOn C =
    EachList C (λ args es. widths args ≡ C.params C.main → ((v : Word) → HasReturned C args es v → ⊥)
    → (e : Event) × Enabled C args (after_event C args opening es) e)

-- after main has returned no event is enabled
abbrev pub Stops : Program → Type 0
Stops C = EachList C (λ args es. (v : Word) (e : Event) → HasReturned C args es v → Enabled C args (after_event C args opening es) e → ⊥)

-- if main has a value, the numbers of its calls and tail calls bound the length of a legal list
abbrev pub Bounded : Program → Type 0
Bounded C = EachList C (λ args es. (v : Word) (d : Main C args v) → length es + 2 * loops C d ≤ 3 * main_cost C args d)

-- if main has a value, a legal list has no more events other than Returns than two for each call, less one for each tail call
abbrev pub FewMoves : Program → Type 0
FewMoves C = EachList C (λ args es. (v : Word) (d : Main C args v) → moves_count es + loops C d ≤ 2 * main_cost C args d)

-- if main has returned, a legal list has exactly two events other than Returns for each call, less one for each tail call
abbrev pub AllMoves : Program → Type 0
AllMoves C = EachList C (λ args es. (v w : Word) (d : Main C args w) → HasReturned C args es v → moves_count es + loops C d ≡ 2 * main_cost C args d)

-- if main has returned, each function was started with the argument lists of the evaluation, in some order
abbrev pub SameCalls : Program → Type 0
SameCalls C =
    EachList C (λ args es. (v w : Word) (d : Main C args w) → HasReturned C args es v
    → (f : ℕ) → IsPermutation (main_calls C args d f) (starts_of C args opening es f))

-- if main has returned, functions were started exactly as often as the evaluation makes calls
abbrev pub SameNumber : Program → Type 0
SameNumber C = EachList C (λ args es. (v w : Word) (d : Main C args w) → HasReturned C args es v → starts_count es ≡ main_cost C args d)

-- a site of a function that does not run is unsent
abbrev pub SitesRest : Program → Type 0
SitesRest C = EachList C (λ args es. (k : ℕ) → 0 < k → CallerRests C (after_event C args opening es) k → (after_event C args opening es).site k ≡ Unsent)

-- at most one event is enabled
abbrev pub OneEvent : Program → Type 0
OneEvent C = EachList C (λ args es. (d e : Event) → Enabled C args (after_event C args opening es) d → Enabled C args (after_event C args opening es) e → d ≡ e)
