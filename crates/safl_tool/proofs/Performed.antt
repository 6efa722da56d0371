-- A command is done, by what its parts answer.
use Rattle.safl_tool.proofs.Common.{Answer, Files, ProbeState, Refusal, SameProbes, ShelfState, Status, TellsOn, false≢true, usage_line}
use Rattle.std.proofs.Common.{◌≡◌, ◌∙◌, ℕ, List, Bool, true, false, Option, Some, None, Result, Ok, Err, Contains, refl, sym, ap, subst, inr, get_or, [], arith}
use Rattle.std.specs.Prelude.{OnSome}
use Rattle.safl_io.specs.Counts.{Rose}
use Rattle.safl_probe.specs.Asked.{Asked, SameUnasked}
use Rattle.safl_command.specs.Commands.{Command}
use Rattle.safl_task.specs.Endings.{Outside, outside, LeavesAll, LeavesParts, Began, Ended, refused, unwritten, unprinted, unprobed, starved}
use Rattle.safl_task.specs.Inputs.{OnlyReads}
use Rattle.safl_task.specs.Tasks.{Input, Task, AreContents, HoldsInputs, files_of}
use Rattle.safl_task.specs.declared.status.Status.TheVariants as status
use Rattle.safl_task.proofs.Reading.{strays_on}
use Rattle.safl_tool.specs.Answers.{Answers, IsGiven, IsGivenInPart, GivingFails, GivesBy}
use Rattle.safl_tool.specs.CommandTasks.{task_if, command_task, usage_task, traces_in}
use Rattle.safl_tool.specs.Refusals.{StopsBy, TellsProbe}
use Rattle.safl_tool.specs.Tracing.{AreAskedFor, asked_by, have_probes, kinds_of}
use Rattle.safl_tool.specs.Worlds.{World, Does, DoesCommand, Spares, SparesFor}
use Rattle.safl_tool.specs.declared.refusal.Refusal.TheVariants as refusal

-- the files were read, and the answer to them was given
module _ {P : Type 0} (t : Task) (asks : Asked) (old new : World P) (mid : ShelfState) (reads : OnlyReads old.outside.shelf mid)
    (contents : List (List ℕ)) (are : AreContents old.outside.shelf.holds t.inputs contents)
    (a : Answer) (answers : Answers t contents a) (quiet : mid.read_faults ≡ old.outside.shelf.read_faults) where
  ended : (s : Status) → IsGiven a (outside mid old.outside.out) new.outside s → Ended t old.outside new.outside s
  ended s h = (
    h.given,
    record {
      given = (contents, are, answers.gives h.given h.will);
      files = subst (λ (x : Option Files). TellsOn (LeavesAll (files_of t.outputs h.given.texts)) x new.outside.shelf.holds) reads.files
          (subst (λ (l : List (List ℕ)). TellsOn (LeavesAll (files_of l h.given.texts)) mid.holds new.outside.shelf.holds) (sym answers.outputs) h.all.files);
      printed = h.all.printed;
      counts = record {
        shelf = record { reads = h.counts.shelf.reads ∙ quiet; writes = h.counts.shelf.writes ∙ reads.writes };
        prints = h.counts.prints;
      };
    },
    sym h.is,
  )

  began : IsGivenInPart a (outside mid old.outside.out) new.outside → Began t old.outside new.outside
  began h = record {
    whole = h.whole;
    given = (contents, are, answers.gives h.whole h.will);
    files = subst (λ (x : Option Files). TellsOn (LeavesParts (files_of t.outputs h.whole.texts)) x new.outside.shelf.holds) reads.files
        (subst (λ (l : List (List ℕ)). TellsOn (LeavesParts (files_of l h.whole.texts)) mid.holds new.outside.shelf.holds) (sym answers.outputs) h.part.files);
    printed = h.part.printed;
  }

  stops : (r : Refusal) → GivingFails a asks old.states new.states (outside mid old.outside.out) new.outside r → StopsBy t (TellsProbe asks old.states new.states) old.outside new.outside r
  stops refusal.Output h = unprinted h.0 (began h.1)
  stops (refusal.Write name) h =
      unwritten name.now (subst (λ (l : List (List ℕ)). Contains l name.now) (sym answers.outputs) h.0) (subst (λ (k : ℕ). Rose k new.outside.shelf.write_faults) reads.writes h.1) (began h.2)
  stops (refusal.Probe kind) h = unprobed _ (kind, h.0, refl) (began h.1)
  stops refusal.NoMemory h = starved (inr (began h))
  stops _ never = absurd never

  pub gives_does : (r : Result Status Refusal) → GivesBy a asks old.states new.states (outside mid old.outside.out) new.outside r → Does t asks old new r
  gives_does (Ok s) h = ended s h
  gives_does (Err r) h = stops r h

-- no stray name is used where nothing is
pub same_strays : (old : ShelfState) → OnSome old.holds (old.strays ≡ old.strays)
same_strays old = go old.holds
  where
    go : (o : Option Files) → OnSome o (old.strays ≡ old.strays)
    go None = tt
    go (Some files) = refl

-- a world that stays
same_states : (ps : List ProbeState) → SameProbes ps ps
same_states ps = record { count = refl; kinds = λ i. refl; faults = λ i. omega arith }

pub spares_none : {P : Type 0} (t : Task) (asks : Asked) (w : World P) → Spares t asks w w
spares_none t asks w = record { no_stray = λ held. same_strays w.outside.shelf; unasked = λ i none p. refl; probes = same_states w.states }

-- the files were read, or not all of them
pub spares_read : {P : Type 0} (t : Task) (asks : Asked) (old new : World P) → new.probes ≡ old.probes → new.states ≡ old.states → (inputs : List Input) → inputs ≡ t.inputs
    → (HoldsInputs old.outside.shelf.holds inputs → OnSome old.outside.shelf.holds (new.outside.shelf.strays ≡ old.outside.shelf.strays)) → Spares t asks old new
spares_read {P} t asks old new boxes states inputs is strays = record {
  no_stray = λ held. strays (subst (λ (l : List Input). HoldsInputs old.outside.shelf.holds l) (sym is) held);
  unasked = λ i none p. ap (λ (l : List P). get_or l i p) boxes;
  probes = subst (λ (l : List ProbeState). SameProbes old.states l) (sym states) (same_states old.states);
}

-- and then the answer was given
pub spares_given : {P : Type 0} (t : Task) (asks : Asked) (old new : World P) (mid : ShelfState) → mid.holds ≡ old.outside.shelf.holds → (inputs : List Input) → inputs ≡ t.inputs
    → (HoldsInputs old.outside.shelf.holds inputs → OnSome old.outside.shelf.holds (mid.strays ≡ old.outside.shelf.strays)) → OnSome mid.holds (new.outside.shelf.strays ≡ mid.strays)
    → SameUnasked asks old.probes new.probes → SameProbes old.states new.states → Spares t asks old new
spares_given t asks old new mid same inputs is first second unasked probes = record {
  no_stray = λ held. strays_on old.outside.shelf mid new.outside.shelf same (first (subst (λ (l : List Input). HoldsInputs old.outside.shelf.holds l) (sym is) held)) second;
  unasked = unasked;
  probes = probes;
}

-- ---- whether the probes can be asked

-- what is so of the task of a command whose probes can be asked
as_asked : (b : Bool) (X Y : Task) (Q : Task → Type 0) → b ≡ true → Q X → Q (task_if b X Y)
as_asked true X Y Q e q = q
as_asked false X Y Q e q = absurd (false≢true e)

pub does_asked : {P : Type 0} (m : Command) (old new : World P) (asks : Asked) → AreAskedFor (traces_in m) asks old.states →
    (r : Result Status Refusal) → Does (command_task m) asks old new r → DoesCommand (Some m) old new r
does_asked m old new asks a r h =
    as_asked (have_probes (traces_in m) (kinds_of old.states)) (command_task m) usage_task (λ t. Does t (asked_by (traces_in m) (kinds_of old.states)) old new r) a.can
    (subst (λ (l : Asked). Does (command_task m) l old new r) a.is h)

pub spares_asked : {P : Type 0} (m : Command) (old new : World P) (asks : Asked) → AreAskedFor (traces_in m) asks old.states → Spares (command_task m) asks old new → SparesFor (Some m) old new
spares_asked m old new asks a h =
    as_asked (have_probes (traces_in m) (kinds_of old.states)) (command_task m) usage_task (λ t. Spares t (asked_by (traces_in m) (kinds_of old.states)) old new) a.can
    (subst (λ (l : Asked). Spares (command_task m) l old new) a.is h)

-- they can't be
not_if : (b : Bool) (X : Task) (Unprobed : List ℕ → Type 0) (o : Outside) → b ≡ false → StopsBy (task_if b X usage_task) Unprobed o o refusal.Usage
not_if true X Unprobed o e = absurd (false≢true (sym e))
not_if false X Unprobed o e = refused status.Usage usage_line refl ([], tt, (refl, refl)) (record { files = refl; out = refl })

pub not_asked : {P : Type 0} (m : Command) (old : World P) → have_probes (traces_in m) (kinds_of old.states) ≡ false → DoesCommand (Some m) old old (Err refusal.Usage)
not_asked m old e = not_if (have_probes (traces_in m) (kinds_of old.states)) (command_task m) _ old.outside e
