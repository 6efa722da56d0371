-- Tests of which events are enabled.
use Rattle.std.specs.Prelude.{ℕ, zero, suc, List, Option, None, Some, Bool, true, false, ◌==◌, ◌&&◌, is_some, get_or}
use Rattle.safl_word.specs.Words.{Word}
use Rattle.safl_term.specs.Program.{Program, unit_for}
use Rattle.safl_term.specs.Readiness.{Stage, Unsent, Sent, Returned}
use Rattle.safl_calls.specs.Machine.{State, Mode, Idle, Runs, Delivers, Event, Accept, Finish, Return, LoopInto, asked, says}
use Rattle.safl_evaluate.specs.Answers.{is_ready, loops_to}

abbrev pub is_idle : Mode → Bool
is_idle Idle = true
is_idle _ = false

abbrev pub runs : Mode → ℕ → Bool
runs Idle f = false
runs (Runs g k ws) f = g == f
runs (Delivers k v) f = false

abbrev pub delivers_to : Mode → ℕ → Bool
delivers_to Idle k = false
delivers_to (Runs f j ws) k = false
delivers_to (Delivers j v) k = j == k

-- the site to which a unit delivers a word
abbrev pub delivered : Mode → Option ℕ
delivered Idle = None
delivered (Runs f k ws) = None
delivered (Delivers k v) = Some k

abbrev pub is_sent : Stage → Bool
is_sent Unsent = false
is_sent Sent = true
is_sent (Returned v) = false

-- whether the event is enabled
abbrev pub can : Program → List Word → State → Event → Bool
can C args s (Accept k) = is_some (asked C args s k) && is_idle (s.unit (unit_for C k))
can C args s (Finish f) = runs (s.unit (C.unit f)) f && is_ready (says C s (C.unit f))
can C args s (Return k) = delivers_to (s.unit (unit_for C k)) k
can C args s (LoopInto h) = loops_to (says C s (C.unit h)) h

-- whether a site is wanted; site 0, the call of main from outside, always is
abbrev pub wanted_at : List (Option (List Word)) → ℕ → Bool
wanted_at wants zero = true
wanted_at wants (suc k) = is_some (get_or wants (suc k) None)
