-- The arguments with which functions start.
use Rattle.std.specs.Prelude.{ℕ, ◌+◌, List, [], ◌∷◌, ◌++◌, Option, Some, None, cond, ◌==◌}
use Rattle.safl_word.specs.Words.{Word}
use Rattle.safl_term.specs.Program.{Program}
use Rattle.safl_term.specs.Readiness.{Answer, Ready, LoopTo, NotYet}
use Rattle.safl_calls.specs.Machine.{State, Event, Accept, Finish, Return, LoopInto, asked, says, fire}

abbrev pub listed : {A : Type 0} → Option A → List A
listed None = []
listed (Some x) = x ∷ []

abbrev pub goes_with : Answer → List (List Word)
goes_with (Ready v) = []
goes_with (LoopTo h vs) = vs ∷ []
goes_with NotYet = []

-- the arguments with which an event starts f, if it does
abbrev pub event_start : Program → List Word → State → Event → ℕ → List (List Word)
event_start C args s (Accept k) f = cond (C.callee k == f) (listed (asked C args s k)) []
event_start C args s (Finish g) f = []
event_start C args s (Return k) f = []
event_start C args s (LoopInto h) f = cond (h == f) (goes_with (says C s (C.unit h))) []

-- the arguments of the Accepts of calls of f and of the Loops to f, in the order of the list
unfoldable pub starts_of : Program → List Word → State → List Event → ℕ → List (List Word)
starts_of C args s [] f = []
starts_of C args s (e ∷ es) f = event_start C args s e f ++ starts_of C args (fire C args s e) es f

-- how many events of a list start a function: each Accept and each Loop does
abbrev pub start_count : Event → ℕ
start_count (Accept k) = 1
start_count (Finish f) = 0
start_count (Return k) = 0
start_count (LoopInto h) = 1

unfoldable pub starts_count : List Event → ℕ
starts_count [] = 0
starts_count (e ∷ es) = start_count e + starts_count es
