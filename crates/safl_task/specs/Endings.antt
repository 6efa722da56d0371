-- How a command ends: what it leaves in the files and on its sinks, and why.
use Rattle.std.specs.Prelude.{◌≡◌, ℕ, ◌<◌, ◌⊎◌, List, length, take, Some, IsSomeAnd, Contains, Bool, true, false, ◌++◌, codes}
use Rattle.std.specs.Fmt.{decimal}
use Rattle.std.specs.Option.{option_or}
use Rattle.safl_io.specs.Counts.{Rose}
use Rattle.safl_io.specs.Shelf.{Files, ShelfState, SameFaults, file_of}
use Rattle.safl_io.specs.Told.{TellsOn}
use Rattle.safl_io.specs.Sink.{SinkState, Sends, SendsPart}
use Rattle.safl_task.specs.Tasks.{Input, Given, Task, end_of, files_of, status_if, OfFile, OfInputs, ReachesInput}
use Rattle.safl_task.specs.declared.status.Status.{Status}
use Rattle.safl_task.specs.declared.status.Status.TheVariants as status

-- the shelf and the sink that is printed to, at one moment
pub record Outside : Type 0 where
  pub shelf : ShelfState
  pub out : SinkState

abbrev pub outside : ShelfState → SinkState → Outside
outside shelf out = record { shelf = shelf; out = out }

-- no file has changed, and nothing was printed
pub record Untouched (old new : Outside) : Type 0 where
  pub files : new.shelf.holds ≡ old.shelf.holds
  pub out : new.out ≡ old.out

-- no count of faults changed: none of the shelf, and not the sink's
pub record SameCounts (old new : Outside) : Type 0 where
  pub shelf : SameFaults old.shelf new.shelf
  pub prints : new.out.faults ≡ old.out.faults

-- each file with a text has that text, and all other files are as they were
abbrev pub LeavesAll : Files → Files → Files → Type 0
LeavesAll texts old new = (name : List ℕ) → file_of new name ≡ option_or (file_of texts name) (file_of old name)

-- each file is as it was, or has a text and is a prefix of that text
abbrev pub LeavesParts : Files → Files → Files → Type 0
LeavesParts texts old new =
    (name : List ℕ) → (file_of new name ≡ file_of old name) ⊎ IsSomeAnd (file_of texts name) (λ text. (count : ℕ) × (file_of new name ≡ Some (take count text)))

-- the command gave this, all of it, and nothing failed
pub record Gave (t : Task) (old new : Outside) (g : Given) : Type 0 where
  pub given : OfInputs old.shelf.holds t.inputs (λ contents. t.Gives contents g)
  pub files : TellsOn (LeavesAll (files_of t.outputs g.texts)) old.shelf.holds new.shelf.holds
  pub printed : TellsOn (Sends g.printed) old.out.sent new.out.sent
  pub counts : SameCounts old new

-- a part of what the command gives was given
pub record Began (t : Task) (old new : Outside) : Type 0 where
  pub whole : Given
  pub given : OfInputs old.shelf.holds t.inputs (λ contents. t.Gives contents whole)
  pub files : TellsOn (LeavesParts (files_of t.outputs whole.texts)) old.shelf.holds new.shelf.holds
  pub printed : TellsOn (SendsPart whole.printed) old.out.sent new.out.sent

-- everything is as it was, or a part of what the command gives was given
abbrev pub Left : Task → Outside → Outside → Type 0
Left t old new = Untouched old new ⊎ Began t old new

-- whether something may have been given if the command ends with this status
abbrev pub may_give : Status → Bool
may_give status.Ok = true
may_give status.NoResult = true
may_give status.WriteFault = true
may_give status.ProbeFault = true
may_give status.NoMemory = true
may_give _ = false

-- Why a command stops with a status and a line, and what it leaves. `Unprobed` holds of the lines that say that a probe failed.
pub data Stops (t : Task) (Unprobed : List ℕ → Type 0) (old new : Outside) : Status → List ℕ → Type 0 where
  -- the command refuses what its files contain
  refused : (s : Status) (line : List ℕ) → may_give s ≡ false → OfInputs old.shelf.holds t.inputs (λ contents. t.Refuses contents s line) → Untouched old new
      → Stops t Unprobed old new s line
  -- a read failed
  unread : (i : Input) → ReachesInput t.inputs old.shelf.holds i → Rose old.shelf.read_faults new.shelf.read_faults → Untouched old new
      → Stops t Unprobed old new status.ReadFault (codes "cannot read " ++ i.name ++ codes "\n")
  -- a file is longer than its limit
  long : (i : Input) → ReachesInput t.inputs old.shelf.holds i → OfFile old.shelf.holds i.name (λ bytes. i.limit < length bytes) → Untouched old new
      → Stops t Unprobed old new status.TooLong (i.name ++ codes " is longer than " ++ decimal i.limit ++ codes " bytes\n")
  -- a write failed
  unwritten : (name : List ℕ) → Contains t.outputs name → Rose old.shelf.write_faults new.shelf.write_faults → Began t old new
      → Stops t Unprobed old new status.WriteFault (codes "cannot write " ++ name ++ codes "\n")
  -- what is printed could not be sent
  unprinted : Rose old.out.faults new.out.faults → Began t old new → Stops t Unprobed old new status.WriteFault (codes "cannot write output\n")
  -- an asked probe failed
  unprobed : (line : List ℕ) → Unprobed line → Began t old new → Stops t Unprobed old new status.ProbeFault line
  -- memory ran out
  starved : Left t old new → Stops t Unprobed old new status.NoMemory (codes "out of memory\n")

-- the command gave everything, and this is the status, Ok or NoResult
abbrev pub Ended : Task → Outside → Outside → Status → Type 0
Ended t old new s = (g : Given) × Gave t old new g × (end_of g ≡ s)

-- the whole line was sent, or the sink failed after a prefix of it
abbrev pub Got : List ℕ → SinkState → SinkState → Type 0
Got line before after = TellsOn (Sends line) before.sent after.sent ⊎ (Rose before.faults after.faults × TellsOn (SendsPart line) before.sent after.sent)

-- How a call of the program ends, with what was sent to standard error before and after it.
pub data Ends (t : Task) (Unprobed : List ℕ → Type 0) (old new : Outside) (before after : SinkState) : Status → Type 0 where
  -- it gave everything, and sent no refusal
  gave : (g : Given) → Gave t old new g → after ≡ before → Ends t Unprobed old new before after (status_if g.comes)
  -- it sent the line that says why it stops
  told : (s : Status) (line : List ℕ) → Stops t Unprobed old new s line → Got line before after → Ends t Unprobed old new before after s
  -- memory ran out while the line was sent
  cut : (s : Status) (line : List ℕ) → Stops t Unprobed old new s line → TellsOn (SendsPart line) before.sent after.sent → Ends t Unprobed old new before after status.NoMemory

-- What was sent to standard error. If the status is Ok or NoResult, nothing. If it is NoMemory, a prefix of the line of some
-- cause. Otherwise the whole line of the cause of the status, or a prefix of it if the sink failed.
abbrev pub Tells : Task → (List ℕ → Type 0) → Outside → Outside → SinkState → SinkState → Status → Type 0
Tells t Unprobed old new before after status.Ok = after ≡ before
Tells t Unprobed old new before after status.NoResult = after ≡ before
Tells t Unprobed old new before after status.NoMemory = (s : Status) × (line : List ℕ) × Stops t Unprobed old new s line × TellsOn (SendsPart line) before.sent after.sent
Tells t Unprobed old new before after s = (line : List ℕ) × Stops t Unprobed old new s line × Got line before after

-- no count of faults of the shelf or of the sink rose, and no asked probe failed
pub record NoFault (Unprobed : List ℕ → Type 0) (old new : Outside) : Type 0 where
  pub reads : ¬ Rose old.shelf.read_faults new.shelf.read_faults
  pub writes : ¬ Rose old.shelf.write_faults new.shelf.write_faults
  pub prints : ¬ Rose old.out.faults new.out.faults
  pub probes : (line : List ℕ) → ¬ Unprobed line
