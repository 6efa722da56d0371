-- What the answer of a command gives, and how it is given.
use Rattle.std.specs.Prelude.{◌≡◌, ℕ, List, [], ◌∷◌, map, slice_index, Option, Contains, Result, Ok, Err}
use Rattle.safl_io.specs.Counts.{Rose}
use Rattle.safl_io.specs.Shelf.{ShelfState}
use Rattle.safl_io.specs.Told.{TellsOn}
use Rattle.safl_io.specs.Sink.{SinkState, Sends, SendsPart}
use Rattle.safl_word.specs.Words.{Word, AreWords}
use Rattle.safl_net.specs.Netlist.{Netlist}
use Rattle.safl_net.specs.Rules.{IsNetlist}
use Rattle.safl_net.specs.Valuations.{Valuation, IsAcyclic}
use Rattle.safl_net.specs.Whole.{IsWhole}
use Rattle.safl_net.specs.Arguments.{AreArguments}
use Rattle.safl_run.specs.Calls.{IsOutcome}
use Rattle.safl_sim.specs.Places.{resets}
use Rattle.safl_sim.specs.declared.done.Done.{Done}
use Rattle.safl_probe.specs.Probing.{ProbeState}
use Rattle.safl_probe.specs.Asked.{Asked, FileNames, asked}
use Rattle.safl_probe.specs.Growth.{AllGrow, Relation}
use Rattle.safl_probe.specs.Runs.{IsRunOf, until_done, trace_at}
use Rattle.safl_probe.specs.Stopping.{ProbeFailed}
use Rattle.safl_session.specs.Laws.{AreCallsOf}
use Rattle.safl_session.specs.Replies.{AreReplies}
use Rattle.safl_sim.specs.declared.done.Done.{Done as Reply}
use Rattle.safl_session.specs.Holding.{IsReady}
use Rattle.safl_command.specs.Traces.{Traces, shown_traces}
use Rattle.safl_task.specs.Endings.{Outside, outside, LeavesAll, LeavesParts, SameCounts}
use Rattle.safl_task.specs.Tasks.{Given, Task, only_prints, only_writes, end_of, files_of}
use Rattle.safl_task.specs.declared.status.Status.{Status}
use Rattle.safl_tool.specs.Calling.{told}
use Rattle.safl_tool.specs.CommandTasks.{traced}
use Rattle.safl_tool.specs.Tracing.{files_for, traces_of, no_traces}
use Rattle.safl_tool.specs.declared.answer.Answer.{Answer}
use Rattle.safl_tool.specs.declared.answer.Answer.TheVariants as answer
use Rattle.safl_tool.specs.declared.answer.Lines.{Lines}
use Rattle.safl_tool.specs.declared.ready.Ready.{Ready}
use Rattle.safl_tool.specs.declared.refusal.Refusal.{Refusal}
use Rattle.safl_tool.specs.declared.refusal.Refusal.TheVariants as refusal
use Rattle.safl_tool.specs.declared.session.ReadySession.{ReadySession}
use Rattle.safl_tool.specs.declared.tracing.TracedRun.{TracedRun}

-- ---- what an answer gives

-- an answer that prints lines gives them
abbrev pub printed : Lines → Given
printed l = only_prints l.comes l.text.items

-- the transcript of the replies to the calls
pub record IsTranscript (o : ReadySession) (limit : ℕ) (g : Given) : Type 0 where
  pub replies : List Reply
  pub are : AreReplies o.session.net limit (slice_index o.session.state) o.calls replies
  pub is : g ≡ told limit o.calls replies

-- the outcome of the run of a net with these words, and its traces
pub record IsTraced (n : Netlist) (words : List Word) (limit : ℕ) (t : Traces) (g : Given) : Type 0 where
  pub done : Option Done
  pub outcome : IsOutcome n words limit done
  pub run : List Valuation
  pub is_run : IsRunOf n words limit run
  pub is : g ≡ traced limit done (traces_of t n (until_done n run))

abbrev pub WillGive : Answer → Given → Type 0
WillGive (answer.Printed lines) g = g ≡ printed lines
WillGive (answer.File name text) g = g ≡ only_writes text.items
WillGive (answer.Replies opening limit) g = IsTranscript opening limit g
WillGive (answer.Traced run) g = IsTraced run.ready.sim.net run.ready.words.items run.limit (shown_traces run.traces.now) g

-- the files that an answer writes; and those for traces among them
abbrev pub outputs_of : Answer → List (List ℕ)
outputs_of (answer.Printed lines) = []
outputs_of (answer.File name text) = name.now ∷ []
outputs_of (answer.Replies opening limit) = []
outputs_of (answer.Traced run) = files_for (shown_traces run.traces.now)

abbrev pub traces_for : Answer → Traces
traces_for (answer.Printed lines) = no_traces
traces_for (answer.File name text) = no_traces
traces_for (answer.Replies opening limit) = no_traces
traces_for (answer.Traced run) = shown_traces run.traces.now

-- the net can be run from reset with these words
pub record CanRun (r : Ready) : Type 0 where
  pub made : IsNetlist r.sim.net
  pub whole : IsWhole r.sim.net
  pub acyclic : IsAcyclic r.sim.net
  pub fresh : r.sim.state ≡ resets r.sim.net
  pub words : AreWords r.words.items
  pub fit : AreArguments r.sim.net r.words.items

-- in the run, the file of each asked probe is in this relation to its old text, with the probe's trace
abbrev pub FilesGrow : {P : Type 0} → Relation → TracedRun → FileNames → (P → ProbeState) → List P → ShelfState → ShelfState → Type 0
FilesGrow R run names tell ps old new =
    (vs : List Valuation) → IsRunOf run.ready.sim.net run.ready.words.items run.limit vs
    → TellsOn (AllGrow R (asked names) (trace_at run.ready.sim.net vs (map tell ps))) old.holds new.holds

abbrev pub CanBeGiven : Answer → Type 0
CanBeGiven (answer.Printed lines) = Unit {0}
CanBeGiven (answer.File name text) = Unit {0}
CanBeGiven (answer.Replies opening limit) = IsReady opening.session × AreCallsOf opening.session.net opening.calls
CanBeGiven (answer.Traced run) = CanRun run.ready

-- the answer fits these contents: all that it gives is what the task gives for them
pub record Answers (t : Task) (contents : List (List ℕ)) (a : Answer) : Type 0 where
  pub gives : (g : Given) → WillGive a g → t.Gives contents g
  pub outputs : t.outputs ≡ outputs_of a
  pub can : CanBeGiven a

-- ---- how an answer is given

-- the files have their texts, and the printed text was sent
pub record GivesAll (outputs : List (List ℕ)) (g : Given) (old new : Outside) : Type 0 where
  pub files : TellsOn (LeavesAll (files_of outputs g.texts)) old.shelf.holds new.shelf.holds
  pub printed : TellsOn (Sends g.printed) old.out.sent new.out.sent

-- each file is as it was or has a prefix of its text, and a prefix of the printed text was sent
pub record GivesPart (outputs : List (List ℕ)) (g : Given) (old new : Outside) : Type 0 where
  pub files : TellsOn (LeavesParts (files_of outputs g.texts)) old.shelf.holds new.shelf.holds
  pub printed : TellsOn (SendsPart g.printed) old.out.sent new.out.sent

-- all that the answer gives was given, with this status, and nothing failed
pub record IsGiven (a : Answer) (old new : Outside) (s : Status) : Type 0 where
  pub given : Given
  pub will : WillGive a given
  pub all : GivesAll (outputs_of a) given old new
  pub counts : SameCounts old new
  pub is : s ≡ end_of given

-- a part of what the answer gives was given
pub record IsGivenInPart (a : Answer) (old new : Outside) : Type 0 where
  pub whole : Given
  pub will : WillGive a whole
  pub part : GivesPart (outputs_of a) whole old new

-- why only a part was given: the sink, the shelf or an asked probe failed, or memory ran out
abbrev pub GivingFails : Answer → Asked → List ProbeState → List ProbeState → Outside → Outside → Refusal → Type 0
GivingFails a asks ps qs old new refusal.Output = Rose old.out.faults new.out.faults × IsGivenInPart a old new
GivingFails a asks ps qs old new (refusal.Write name) =
    Contains (outputs_of a) name.now × Rose old.shelf.write_faults new.shelf.write_faults × IsGivenInPart a old new
GivingFails a asks ps qs old new (refusal.Probe kind) = ProbeFailed kind asks ps qs × IsGivenInPart a old new
GivingFails a asks ps qs old new refusal.NoMemory = IsGivenInPart a old new
GivingFails a asks ps qs old new _ = ⊥

-- the answer was given, or only a part of it for one of these reasons
abbrev pub GivesBy : Answer → Asked → List ProbeState → List ProbeState → Outside → Outside → Result Status Refusal → Type 0
GivesBy a asks ps qs old new (Ok s) = IsGiven a old new s
GivesBy a asks ps qs old new (Err r) = GivingFails a asks ps qs old new r

-- the answer was given, or not, by printing alone: this holds whatever the shelf and the probes tell
abbrev pub GivesByPrinting : Answer → SinkState → SinkState → Result Status Refusal → Type 0
GivesByPrinting a before after r =
    (shelf : ShelfState) (asks : Asked) (ps qs : List ProbeState) → GivesBy a asks ps qs (outside shelf before) (outside shelf after) r

-- the answer was given, or not, by writing a file alone: this holds whatever the output and the probes tell
abbrev pub GivesByWriting : Answer → ShelfState → ShelfState → Result Status Refusal → Type 0
GivesByWriting a before after r =
    (out : SinkState) (asks : Asked) (ps qs : List ProbeState) → GivesBy a asks ps qs (outside before out) (outside after out) r
