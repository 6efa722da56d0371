-- The call machine: units that serve calls, without cycles or registers.
use Rattle.std.specs.Prelude.{◌≡◌, ℕ, zero, suc, List, [], ◌∷◌, Option, Some, None, Bool, true, false, cond, ◌==◌, ◌&&◌, nat_le, unwrap_or}
use Rattle.std.specs.Str.{bytes_eq}
use Rattle.safl_word.specs.Words.{Word, widths}
use Rattle.safl_term.specs.Program.{Program, unit_for}
use Rattle.safl_term.specs.Readiness.{Stage, Unsent, Sent, Returned, back_word, Answer, Ready, LoopTo, NotYet, answer, wanted, word_of}

-- a unit is idle, runs a function with arguments for the site that it serves, or delivers a word to that site
pub data Mode : Type 0 where
  Idle : Mode
  Runs : (member serves : ℕ) (args : List Word) → Mode
  Delivers : (serves : ℕ) (word : Word) → Mode

-- The mode of each unit and the stage of each site. Site 0, the call of main from outside, has returned what main has returned.
pub record State : Type 0 where
  pub unit : ℕ → Mode
  pub site : ℕ → Stage

-- a site's call is accepted; a function finishes; a site gets its word; a unit loops to a function of its group
pub data Event : Type 0 where
  Accept : (site : ℕ) → Event
  Finish : (function : ℕ) → Event
  Return : (site : ℕ) → Event
  LoopInto : (member : ℕ) → Event

-- all units are idle, and main was not accepted
abbrev pub opening : State
opening = record { unit = λ u. Idle; site = λ k. Unsent }

-- the function f, with x in place of its value at i
abbrev pub put : {A : Type 0} → (ℕ → A) → ℕ → A → ℕ → A
put f i x j = cond (i == j) x (f j)

abbrev pub is_unsent : Stage → Bool
is_unsent Unsent = true
is_unsent _ = false

-- the words that sites have got back
abbrev pub back : State → ℕ → Option Word
back s zero = None
back s (suc k) = back_word (s.site (suc k))

-- what the body that a unit runs comes to
abbrev pub says_as : Program → (ℕ → Option Word) → Mode → Answer
says_as C words (Runs f k args) = answer words args (C.body f)
says_as C words _ = NotYet

abbrev pub says : Program → State → ℕ → Answer
says C s u = says_as C (back s) (s.unit u)

-- the words with which the body of f wants site k, if the unit runs f
abbrev pub asked_as : Program → (ℕ → Option Word) → Mode → ℕ → ℕ → Option (List Word)
asked_as C words (Runs g j args) f k = cond (g == f) (wanted words args (C.body f) k) None
asked_as C words _ f k = None

-- the words with which an unsent site is wanted. Site 0 wants the arguments from outside, if main has parameters of their widths
abbrev pub asked : Program → List Word → State → ℕ → Option (List Word)
asked C args s zero = cond (is_unsent (s.site 0) && bytes_eq (widths args) (C.params C.main)) (Some args) None
asked C args s (suc k) =
    cond (is_unsent (s.site (suc k)) && nat_le (suc k) C.sites) (asked_as C (back s) (s.unit (C.unit (C.caller (suc k)))) (C.caller (suc k)) (suc k)) None

-- When an event is enabled. A call is accepted if it is wanted and unsent and its unit is idle. A function finishes if its unit runs it and
-- its body is ready. A site gets its word if its unit delivers one to it. A unit loops if the body that it runs comes to that tail call.
abbrev pub Enabled : Program → List Word → State → Event → Type 0
Enabled C args s (Accept k) = (ws : List Word) × (asked C args s k ≡ Some ws) × (s.unit (unit_for C k) ≡ Idle)
Enabled C args s (Finish f) = (k : ℕ) × (ws : List Word) × (v : Word) × (s.unit (C.unit f) ≡ Runs f k ws) × (says C s (C.unit f) ≡ Ready v)
Enabled C args s (Return k) = (v : Word) × (s.unit (unit_for C k) ≡ Delivers k v)
Enabled C args s (LoopInto h) = (vs : List Word) × (says C s (C.unit h) ≡ LoopTo h vs)

-- the stages after a unit ends a body: the sites in its functions are unsent again
abbrev pub ended : Program → ℕ → (ℕ → Stage) → ℕ → Stage
ended C u site zero = site zero
ended C u site (suc k) = cond (C.unit (C.caller (suc k)) == u) Unsent (site (suc k))

abbrev pub accept : Program → State → ℕ → Option (List Word) → State
accept C s k None = s
accept C s k (Some ws) = record { unit = put s.unit (unit_for C k) (Runs (C.callee k) k ws); site = put s.site k Sent }

abbrev pub finish : Program → State → ℕ → Mode → Answer → State
finish C s u (Runs f k ws) (Ready v) = record { unit = put s.unit u (Delivers k v); site = ended C u s.site }
finish C s u _ _ = s

abbrev pub give_back : Program → State → ℕ → Mode → State
give_back C s k (Delivers j v) = record { unit = put s.unit (unit_for C k) Idle; site = put s.site k (Returned v) }
give_back C s k _ = s

abbrev pub loop_into : Program → State → ℕ → Mode → Answer → State
loop_into C s u (Runs f k ws) (LoopTo h vs) = record { unit = put s.unit u (Runs h k vs); site = ended C u s.site }
loop_into C s u _ _ = s

-- The state after an event; everything else stays. An accepted call is sent, and its unit runs the called function for it. A unit
-- that finishes delivers the word to the site that it serves, and its own sites end. A site that gets its word has returned it,
-- and its unit is idle. A unit that loops runs the new function with the new arguments for the same site, and its own sites end.
-- Only events that are enabled are fired (`Legal`).
abbrev pub fire : Program → List Word → State → Event → State
fire C args s (Accept k) = accept C s k (asked C args s k)
fire C args s (Finish f) = finish C s (C.unit f) (s.unit (C.unit f)) (says C s (C.unit f))
fire C args s (Return k) = give_back C s k (s.unit (unit_for C k))
fire C args s (LoopInto h) = loop_into C s (C.unit h) (s.unit (C.unit h)) (says C s (C.unit h))

-- each event is enabled when its turn comes
unfoldable pub Legal : Program → List Word → State → List Event → Type 0
Legal C args s [] = Unit {0}
Legal C args s (e ∷ es) = Enabled C args s e × Legal C args (fire C args s e) es

-- the state after the events
unfoldable pub after_event : Program → List Word → State → List Event → State
after_event C args s [] = s
after_event C args s (e ∷ es) = after_event C args (fire C args s e) es

-- the word that unit u finished last, or d where it has finished none
abbrev pub finished : Program → State → Event → ℕ → Word → Word
finished C s (Finish f) u d = cond (C.unit f == u) (unwrap_or (word_of (says C s u)) d) d
finished C s _ u d = d

unfoldable pub last_word : Program → List Word → State → List Event → ℕ → Word → Word
last_word C args s [] u d = d
last_word C args s (e ∷ es) u d = last_word C args (fire C args s e) es u (finished C s e u d)

-- a statement holds of every list of events that is legal from the opening state
abbrev pub EachList : Program → (List Word → List Event → Type 0) → Type 0
EachList C Q = (args : List Word) (es : List Event) → Legal C args opening es → Q args es

-- ---- parts by name

-- the function whose body has site k does not run
abbrev pub CallerRests : Program → State → ℕ → Type 0
CallerRests C s k = (j : ℕ) (args : List Word) → s.unit (C.unit (C.caller k)) ≡ Runs (C.caller k) j args → ⊥

abbrev pub finished_as : Answer → Word → Word
finished_as a d = unwrap_or (word_of a) d
