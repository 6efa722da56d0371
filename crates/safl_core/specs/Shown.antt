-- What a machine shows, and what it keeps.
use Rattle.std.specs.Prelude.{◌≡◌, ℕ, suc, ◌+◌, List, length, Option, Some, None}
use Rattle.safl_word.specs.Words.{Word, widths}
use Rattle.safl_term.specs.Checked.{CheckedProgram, IsChecked}
use Rattle.safl_term.specs.Readiness.{Answer}
use Rattle.safl_calls.specs.Machine as core
use Rattle.safl_core.specs.declared.event.Event.{Event}
use Rattle.safl_core.specs.declared.event.Event.TheVariants.{Accept, Finish, Return, Loop}
use Rattle.safl_core.specs.declared.mode.Mode.{Mode}
use Rattle.safl_evaluate.specs.declared.stage.Stage.{Stage}
use Rattle.safl_core.specs.Knowing.{IsKnown, HasRoom}
use Rattle.safl_core.specs.Modes.{state_of}

-- what is shown of a machine: the program, the arguments of main, the modes and stages, and the number of events fired
pub record Shown : Type 0 where
  pub checked : CheckedProgram
  pub open checked use *
  pub args : List Word
  pub units : List Mode
  pub sites : List Stage
  pub events : ℕ

abbrev pub shown_of : CheckedProgram → List Word → List Mode → List Stage → ℕ → Shown
shown_of c args units sites events = record { checked = c; args = args; units = units; sites = sites; events = events }

-- the state of the machine that is shown
abbrev pub state : Shown → core.State
state m = state_of m.units m.sites

abbrev pub event_of : Event → core.Event
event_of (Accept k) = core.Accept k
event_of (Finish f) = core.Finish f
event_of (Return k) = core.Return k
event_of (Loop h) = core.LoopInto h

-- a legal list of this many events leads to the machine's state
pub record IsReached (m : Shown) : Type 0 where
  pub list : List core.Event
  pub count : length list ≡ m.events
  pub legal : core.Legal m.program m.args core.opening list
  pub ends : core.after_event m.program m.args core.opening list ≡ state m

-- the event is enabled now
abbrev pub CanFire : Shown → core.Event → Type 0
CanFire m e = core.Enabled m.program m.args (state m) e

-- the site that a unit serves, or 0
abbrev pub serves_of : core.Mode → ℕ
serves_of core.Idle = 0
serves_of (core.Runs f k ws) = k
serves_of (core.Delivers k v) = k

-- the word that a unit delivers
abbrev pub word_given : core.Mode → Option Word
word_given core.Idle = None
word_given (core.Runs f k ws) = None
word_given (core.Delivers k v) = Some v

-- the machine after an event: the event was fired, and the program and the arguments are the same
pub record Fires (m : Shown) (e : core.Event) (n : Shown) : Type 0 where
  pub program : n.checked ≡ m.checked
  pub args : n.args ≡ m.args
  pub next : state n ≡ core.fire m.program m.args (state m) e
  pub events : n.events ≡ m.events + 1

-- what is kept besides: what the bodies come to, the words with which they want their sites, and room for slots
pub record IsKept (m : Shown) (answers : List Answer) (wants : List (Option (List Word))) (room : ℕ) : Type 0 where
  pub checked : IsChecked m.checked
  pub units : length m.units ≡ m.program.functions
  pub sites : length m.sites ≡ suc m.program.sites
  pub answers_all : length answers ≡ m.program.functions
  pub wants_all : length wants ≡ suc m.program.sites
  pub given : widths m.args ≡ m.program.params m.program.main
  pub room_all : HasRoom m.program room
  pub reached : IsReached m
  pub known : (u : ℕ) → IsKnown m.program (state m) answers wants u

-- a new machine: all units are idle, and main was not accepted
pub record Opens (c : CheckedProgram) (args : List Word) (m : Shown) : Type 0 where
  pub program : m.checked ≡ c
  pub given : m.args ≡ args
  pub first : state m ≡ core.opening
  pub none : m.events ≡ 0
