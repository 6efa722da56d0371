-- The world of a call of the program: the shelf, the output and the probes; and how a call changes it.
use Rattle.std.specs.Prelude.{◌≡◌, ◌⊎◌, ℕ, List, map, Option, IsSome, Result, Ok, Err, Contains, false}
use Rattle.safl_io.specs.Shelf.{ShelfState, file_of}
use Rattle.safl_io.specs.Told.{TellsOn}
use Rattle.safl_io.specs.Sink.{SinkState}
use Rattle.safl_probe.specs.Probing.{ProbeState}
use Rattle.safl_probe.specs.Asked.{Asked, SameUnasked}
use Rattle.safl_probe.specs.Stopping.{SameProbes}
use Rattle.safl_command.specs.Commands.{Command}
use Rattle.safl_task.specs.Endings.{Outside, Ended, Ends, Left, NoFault, Untouched, may_give}
use Rattle.safl_task.specs.Tasks.{Task, OfInputs, SameStraysWith}
use Rattle.safl_task.specs.declared.status.Status.{Status}
use Rattle.safl_task.specs.declared.status.Status.TheVariants as status
use Rattle.safl_tool.specs.CommandTasks.{task_of, asks_of}
use Rattle.safl_tool.specs.Refusals.{StopsBy, TellsProbe}
use Rattle.safl_tool.specs.Tracing.{kinds_of}
use Rattle.safl_tool.specs.Watched.{Attended}
use Rattle.safl_tool.specs.declared.refusal.Refusal.{Refusal}

-- what the shelf and the output tell at one moment; the probes; and what they tell
pub record World (P : Type 0) : Type 0 where
  pub outside : Outside
  pub probes : List P
  pub states : List ProbeState

abbrev pub world : {P : Type 0} → ShelfState → SinkState → (P → ProbeState) → List P → World P
world shelf out tell probes = record { outside = record { shelf = shelf; out = out }; probes = probes; states = map tell probes }

-- ---- a command

abbrev pub task_in : {P : Type 0} → Option Command → World P → Task
task_in m w = task_of (kinds_of w.states) m

abbrev pub asks_in : {P : Type 0} → Option Command → World P → Asked
asks_in m w = asks_of (kinds_of w.states) m

-- the line says that a probe failed which the command asks
abbrev pub Unprobed : {P : Type 0} → Option Command → World P → World P → List ℕ → Type 0
Unprobed m old new = TellsProbe (asks_in m old) old.states new.states

-- What holds in any case: on a shelf that tells, and has the input files, no stray name is used; each probe that is not asked is
-- as it was; and there are as many probes as before, of the same kinds in the same order, and none has fewer faults.
pub record Spares {P : Type 0} (t : Task) (asks : Asked) (old new : World P) : Type 0 where
  pub no_stray : SameStraysWith t.inputs old.outside.shelf new.outside.shelf
  pub unasked : SameUnasked asks old.probes new.probes
  pub probes : SameProbes old.states new.states

-- the task was done, or it stops
abbrev pub Does : {P : Type 0} → Task → Asked → World P → World P → Result Status Refusal → Type 0
Does t asks old new (Ok s) = Ended t old.outside new.outside s
Does t asks old new (Err r) = StopsBy t (TellsProbe asks old.states new.states) old.outside new.outside r

-- the task of a command was done, or it stops
abbrev pub DoesCommand : {P : Type 0} → Option Command → World P → World P → Result Status Refusal → Type 0
DoesCommand m old new = Does (task_in m old) (asks_in m old) old new

abbrev pub SparesFor : {P : Type 0} → Option Command → World P → World P → Type 0
SparesFor m old new = Spares (task_in m old) (asks_in m old) old new

-- ---- a call of the program by its words, with what was sent to standard error before and after it

-- how a call ends
abbrev pub EndsBy : {P : Type 0} → Option Command → World P → World P → SinkState → SinkState → Status → Type 0
EndsBy m old new = Ends (task_in m old) (Unprobed m old new) old.outside new.outside

-- What follows from how a call ends. Unless the status is Ok, NoResult, WriteFault, ProbeFault or NoMemory, no file has
-- changed and nothing was printed (`keeps`). At every status, each file that is no output file is as it was (`others`); each
-- output file is as it was or has a prefix of its text, and a prefix of the printed text was sent (`left`). If a result is
-- promised and nothing failed, it came or memory ran out (`completes`). `attended` says what became of the probes: the asked
-- ones were shown the run, and at the statuses of `keeps` all are as they were.
pub record Follows {P : Type 0} (m : Option Command) (old new : World P) (s : Status) : Type 0 where
  pub keeps : may_give s ≡ false → Untouched old.outside new.outside
  pub others : (name : List ℕ) → ¬ Contains (task_in m old).outputs name
      → TellsOn (λ before after. file_of after name ≡ file_of before name) old.outside.shelf.holds new.outside.shelf.holds
  pub left : Left (task_in m old) old.outside new.outside
  pub no_stray : SameStraysWith (task_in m old).inputs old.outside.shelf new.outside.shelf
  pub completes : IsSome old.outside.shelf.holds → OfInputs old.outside.shelf.holds (task_in m old).inputs (task_in m old).Promises
      → NoFault (Unprobed m old new) old.outside new.outside → (s ≡ status.Ok) ⊎ (s ≡ status.NoMemory)
  pub attended : Attended m old.outside.shelf.holds old.probes new.probes old.states new.states s
  pub unasked : SameUnasked (asks_in m old) old.probes new.probes
  pub probes : SameProbes old.states new.states
