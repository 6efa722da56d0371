-- What becomes of the probes that a command asks.
use Rattle.std.specs.Prelude.{◌≡◌, ◌⊎◌, ℕ, List, Option, IfSome, Result, Ok, Err, false}
use Rattle.safl_io.specs.Shelf.{Files, ShelfState, SameFaults}
use Rattle.safl_word.specs.Words.{Word}
use Rattle.safl_net.specs.Netlist.{Netlist}
use Rattle.safl_net.specs.Valuations.{Valuation}
use Rattle.safl_run.specs.Calls.{IsOutcome}
use Rattle.safl_sim.specs.declared.done.Done.{Done}
use Rattle.safl_probe.specs.Probing.{ProbeState}
use Rattle.safl_probe.specs.Asked.{Asked, FileNames}
use Rattle.safl_probe.specs.Runs.{AreShown, IsRunOf, RunIsShown, until_done}
use Rattle.safl_command.specs.Commands.{Command, Sim}
use Rattle.safl_task.specs.Endings.{may_give}
use Rattle.safl_task.specs.Tasks.{Only, OfInputs}
use Rattle.safl_task.specs.declared.status.Status.{Status}
use Rattle.safl_task.specs.declared.status.Status.TheVariants as status
use Rattle.safl_tool.specs.CommandTasks.{asks_of, command_task}
use Rattle.safl_tool.specs.Refusals.{status_of}
use Rattle.safl_tool.specs.Simulating.{Simulates}
use Rattle.safl_tool.specs.Tracing.{kinds_of}
use Rattle.safl_tool.specs.declared.answer.Answer.{Answer}
use Rattle.safl_tool.specs.declared.answer.Answer.TheVariants as answer
use Rattle.safl_tool.specs.declared.refusal.Refusal.{Refusal}
use Rattle.safl_tool.specs.declared.tracing.TracedRun.{TracedRun}

-- ---- a run

-- a run of the circuit of a source, whose cycles up to the first with `done` at 1 the asked probes were shown
abbrev pub IsShownRun : List (List ℕ) → ℕ → Asked → List ProbeState → List ProbeState → List ℕ → Type 0
IsShownRun args limit asks ps qs source = (answer : Option Done) × (s : Simulates source args limit answer) × (run : List Valuation)
    × IsRunOf s.net s.words limit run × AreShown s.net (until_done s.net run) asks ps qs

-- the same of the run of a net with these words
pub record IsShown (n : Netlist) (words : List Word) (limit : ℕ) (asks : Asked) (ps qs : List ProbeState) : Type 0 where
  pub answer : Option Done
  pub outcome : IsOutcome n words limit answer
  pub run : List Valuation
  pub is_run : IsRunOf n words limit run
  pub shown : AreShown n (until_done n run) asks ps qs

-- the asked probes were shown it, and no read or write failed
pub record ShowsRun {P : Type 0} (r : TracedRun) (names : FileNames) (tell : P → ProbeState) (ps qs : List P) (old new : ShelfState) : Type 0 where
  pub shown : RunIsShown r.ready.sim.net r.ready.words.items r.limit names tell ps qs
  pub quiet : SameFaults old new

-- ---- a command

-- the asked probes were shown its run, where it has one
abbrev pub ShowsCommand : Command → Asked → List ProbeState → List ProbeState → List (List ℕ) → Type 0
ShowsCommand (Sim input limit traces args) asks ps qs contents = Only (λ source. IsShownRun args limit asks ps qs source) contents
ShowsCommand _ asks ps qs contents = Unit {0}

abbrev pub ShowsAnswer : Answer → Asked → List ProbeState → List ProbeState → Type 0
ShowsAnswer (answer.Traced run) asks ps qs = IsShown run.ready.sim.net run.ready.words.items run.limit asks ps qs
ShowsAnswer _ asks ps qs = Unit {0}

-- what the asked probes are shown of the answer is the run of the command of these contents
abbrev pub ShowsFor : Command → List (List ℕ) → Answer → Type 0
ShowsFor m contents a = (asks : Asked) (ps qs : List ProbeState) → ShowsAnswer a asks ps qs → ShowsCommand m asks ps qs contents

-- ---- at the end of a command

-- At its end, where the shelf held this before, the asked probes were shown its run; and where it stops and nothing may have been
-- given, all probes are as they were. `ps` and `qs` are the probes before and after, and `ss` and `ts` what they tell.
abbrev pub Attends : {P : Type 0} → Command → Asked → Option Files → List P → List P → List ProbeState → List ProbeState → Result Status Refusal → Type 0
Attends m asks holds ps qs ss ts (Ok s) = OfInputs holds (command_task m).inputs (ShowsCommand m asks ss ts)
Attends m asks holds ps qs ss ts (Err r) = may_give (status_of r) ≡ false → qs ≡ ps

-- the same of words that may be a command
abbrev pub WatchesFor : Option Command → Option Files → List ProbeState → List ProbeState → Type 0
WatchesFor m holds ss ts = IfSome m (λ c. OfInputs holds (command_task c).inputs (ShowsCommand c (asks_of (kinds_of ss) m) ss ts))

abbrev pub AttendsFor : {P : Type 0} → Option Command → Option Files → List P → List P → List ProbeState → List ProbeState → Result Status Refusal → Type 0
AttendsFor m holds ps qs ss ts (Ok s) = WatchesFor m holds ss ts
AttendsFor m holds ps qs ss ts (Err r) = may_give (status_of r) ≡ false → qs ≡ ps

-- and by the status of a call
pub record Attended {P : Type 0} (m : Option Command) (holds : Option Files) (ps qs : List P) (ss ts : List ProbeState) (s : Status) : Type 0 where
  pub watched : (s ≡ status.Ok) ⊎ (s ≡ status.NoResult) → WatchesFor m holds ss ts
  pub alone : may_give s ≡ false → qs ≡ ps
