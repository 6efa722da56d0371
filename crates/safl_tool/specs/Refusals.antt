-- What refusals say.
use Rattle.std.specs.Prelude.{◌≡◌, ◌⊎◌, ℕ, List, map, Option, Some, string_bytes, ◌++◌, codes}
use Rattle.std.specs.Fmt.{decimal}
use Rattle.safl_io.specs.Counts.{Rose}
use Rattle.safl_io.specs.Shelf.{ShelfState}
use Rattle.safl_io.specs.Told.{TellsOn}
use Rattle.safl_io.specs.Sink.{SinkState, Sends, SendsPart}
use Rattle.safl_probe.specs.Probing.{ProbeState}
use Rattle.safl_probe.specs.Asked.{Asked, FileNames, IsAsked, asked}
use Rattle.safl_probe.specs.Stopping.{ProbeFailed}
use Rattle.safl_word.specs.Faults.{fault_text}
use Rattle.safl_aig.specs.Lines.{fault_line, register_line, weight_line}
use Rattle.safl_verilog.specs.FaultTexts.{vfault_text}
use Rattle.safl_task.specs.Tasks.{Task}
use Rattle.safl_task.specs.Endings.{Outside, Stops, Got}
use Rattle.safl_task.specs.Lines.{memory_line, read_line, write_line, long_line, output_line}
use Rattle.safl_task.specs.declared.input.Unread.{Unread}
use Rattle.safl_task.specs.declared.input.Unread.TheVariants as unread
use Rattle.safl_task.specs.declared.status.Status.{Status}
use Rattle.safl_task.specs.declared.status.Status.TheVariants as status
use Rattle.safl_tool.specs.Lines.{usage_line, count_line, argument_line, numbered_line, placed_line, site_line, probe_line}
use Rattle.safl_tool.specs.VerilogLines.{loop_line}
use Rattle.safl_tool.specs.declared.refusal.Refusal.{Refusal}
use Rattle.safl_tool.specs.declared.refusal.Refusal.TheVariants as refusal

abbrev pub status_of : Refusal → Status
status_of refusal.Usage = status.Usage
status_of (refusal.Source name f line column) = status.SourceRefused
status_of (refusal.Read name) = status.ReadFault
status_of (refusal.TooLong name limit) = status.TooLong
status_of (refusal.Write name) = status.WriteFault
status_of refusal.Output = status.WriteFault
status_of (refusal.Verilog name f line column) = status.VerilogRefused
status_of (refusal.Loop name wires) = status.VerilogRefused
status_of (refusal.Count params given) = status.BadArgs
status_of (refusal.Argument index width) = status.BadArgs
status_of (refusal.ScriptCount line params given) = status.BadArgs
status_of (refusal.ScriptArgument line index width) = status.BadArgs
status_of (refusal.Site site text) = status.ReshapeRefused
status_of (refusal.Aig name line rule) = status.AigRefused
status_of (refusal.Heavy weight) = status.CircuitTooLarge
status_of (refusal.Register name) = status.NotZero
status_of (refusal.Probe kind) = status.ProbeFault
status_of refusal.NoMemory = status.NoMemory

abbrev pub line_of : Refusal → List ℕ
line_of refusal.Usage = usage_line
line_of (refusal.Source name f line column) = placed_line name.now line column (fault_text f)
line_of (refusal.Read name) = read_line name.now
line_of (refusal.TooLong name limit) = long_line name.now limit
line_of (refusal.Write name) = write_line name.now
line_of refusal.Output = output_line
line_of (refusal.Verilog name f line column) = placed_line name.now line column (vfault_text f)
line_of (refusal.Loop name wires) = loop_line name.now (map string_bytes wires.items)
line_of (refusal.Count params given) = count_line params given
line_of (refusal.Argument index width) = argument_line index width
line_of (refusal.ScriptCount line params given) = numbered_line line (count_line params given)
line_of (refusal.ScriptArgument line index width) = numbered_line line (argument_line index width)
line_of (refusal.Site site text) = site_line site text.now
line_of (refusal.Aig name line rule) = fault_line name.now line rule
line_of (refusal.Heavy weight) = weight_line weight
line_of (refusal.Register name) = register_line (string_bytes name)
line_of (refusal.Probe kind) = probe_line kind
line_of refusal.NoMemory = memory_line

-- the refusal of a file that was not read
abbrev pub IsOfUnread : Unread → Refusal → Type 0
IsOfUnread (unread.Failed name) r = r ≡ refusal.Read name
IsOfUnread (unread.TooLong name limit) r = r ≡ refusal.TooLong name limit
IsOfUnread unread.NoMemory r = r ≡ refusal.NoMemory

-- the refusal has a status and a line with property R, or it is out of memory
abbrev pub RefusesBy : (Status → List ℕ → Type 0) → Refusal → Type 0
RefusesBy R r = (r ≡ refusal.NoMemory) ⊎ R (status_of r) (line_of r)

-- the status and the line are these
abbrev pub HasLine : Status → List ℕ → Status → List ℕ → Type 0
HasLine status line s l = (s ≡ status) × (l ≡ line)

-- the refusal is one of the task for these contents, or out of memory
abbrev pub Declines : Task → List (List ℕ) → Refusal → Type 0
Declines t contents = RefusesBy (t.Refuses contents)

-- the command stops with the status and the line of the refusal
abbrev pub StopsBy : Task → (List ℕ → Type 0) → Outside → Outside → Refusal → Type 0
StopsBy t Unprobed old new r = Stops t Unprobed old new (status_of r) (line_of r)

-- the line says that an asked probe failed
abbrev pub TellsProbe : Asked → List ProbeState → List ProbeState → List ℕ → Type 0
TellsProbe asks ps qs line = (kind : ℕ) × ProbeFailed kind asks ps qs × (line ≡ codes "probe " ++ decimal kind ++ codes " failed\n")

-- why a run was not watched to its end: an asked probe failed, one of their files was not written, or memory ran out
abbrev pub WatchingFails : Asked → List ProbeState → List ProbeState → ShelfState → ShelfState → Refusal → Type 0
WatchingFails names ps qs old new (refusal.Probe kind) = ProbeFailed kind names ps qs
WatchingFails names ps qs old new (refusal.Write name) = ((i : ℕ) × IsAsked names i name.now) × Rose old.write_faults new.write_faults
WatchingFails names ps qs old new refusal.NoMemory = Unit {0}
WatchingFails names ps qs old new _ = ⊥

-- why a run was not watched to its end, said by the names of files that the probes are asked to write, and what they tell
abbrev pub FailsToWatch : {P : Type 0} → FileNames → (P → ProbeState) → List P → List P → ShelfState → ShelfState → Refusal → Type 0
FailsToWatch names tell ps qs old new r = WatchingFails (asked names) (map tell ps) (map tell qs) old new r

-- the refusal says that this file was not written
abbrev pub IsWriting : Option (List ℕ) → Refusal → Type 0
IsWriting file (refusal.Write name) = file ≡ Some name.now
IsWriting file _ = ⊥

-- a text was printed
abbrev pub Prints : List ℕ → SinkState → SinkState → Type 0
Prints text before after = TellsOn (Sends text) before.sent after.sent

-- why a text was not printed: the sink failed after a prefix of it, or memory ran out after one
abbrev pub PrintFails : List ℕ → SinkState → SinkState → Refusal → Type 0
PrintFails text before after refusal.Output = Rose before.faults after.faults × TellsOn (SendsPart text) before.sent after.sent
PrintFails text before after refusal.NoMemory = TellsOn (SendsPart text) before.sent after.sent
PrintFails text before after _ = ⊥

-- the line was sent, or the sink failed, or memory ran out while it was sent
pub data SendsLine (s : Status) (line : List ℕ) (before after : SinkState) : Status → Type 0 where
  sent : Got line before after → SendsLine s line before after s
  cut : TellsOn (SendsPart line) before.sent after.sent → SendsLine s line before after status.NoMemory

-- the line of the refusal was sent, or memory ran out while it was made
pub data SendsRefusal (r : Refusal) (before after : SinkState) (s : Status) : Type 0 where
  made : SendsLine (status_of r) (line_of r) before after s → SendsRefusal r before after s
  unmade : SendsLine status.NoMemory memory_line before after s → SendsRefusal r before after s
