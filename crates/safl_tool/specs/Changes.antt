-- How a call changes a shelf, the output and the probes, by what each of them tells before and after.
use Rattle.std.specs.Prelude.{List, map, Option, Result, Vec, string_bytes}
use Rattle.std.specs.declared.string.String.{String}
use Rattle.std.specs.declared.alloc.Global.{Global}
use Rattle.safl_io.specs.Shelf.{ShelfState}
use Rattle.safl_io.specs.Sink.{SinkState}
use Rattle.safl_probe.specs.Probing.{ProbeState}
use Rattle.safl_probe.specs.Asked.{FileNames, asked}
use Rattle.safl_command.specs.Commands.{Command, command_of}
use Rattle.safl_task.specs.Endings.{outside}
use Rattle.safl_task.specs.declared.status.Status.{Status}
use Rattle.safl_tool.specs.CommandTasks.{command_task}
use Rattle.safl_tool.specs.Answers.{GivesBy}
use Rattle.safl_tool.specs.Watched.{Attended, Attends, AttendsFor, ShowsAnswer}
use Rattle.safl_tool.specs.Worlds.{Does, DoesCommand, EndsBy, Follows, Spares, SparesFor, world}
use Rattle.safl_tool.specs.declared.answer.Answer.{Answer}
use Rattle.safl_tool.specs.declared.refusal.Refusal.{Refusal}

-- the answer was given, or not, when the probes are asked for these files
abbrev pub GivesOn : {S O P : Type 0} → Answer → FileNames → (S → ShelfState) → S → S → (O → SinkState) → O → O
    → (P → ProbeState) → Vec P Global → Vec P Global → Result Status Refusal → Type 0
GivesOn a names shelf s s' out o o' tell ps qs r =
    GivesBy a (asked names) (map tell ps.items) (map tell qs.items) (outside (shelf s) (out o)) (outside (shelf s') (out o')) r

-- the command was done, or it stops, when the probes are asked for these files
abbrev pub DoesAskedOn : {S O P : Type 0} → Command → FileNames → (S → ShelfState) → S → S → (O → SinkState) → O → O
    → (P → ProbeState) → Vec P Global → Vec P Global → Result Status Refusal → Type 0
DoesAskedOn m names shelf s s' out o o' tell ps qs r =
    Does (command_task m) (asked names) (world (shelf s) (out o) tell ps.items) (world (shelf s') (out o') tell qs.items) r

-- what stays in any case, when the probes are asked for these files
abbrev pub SparesAskedOn : {S O P : Type 0} → Command → FileNames → (S → ShelfState) → S → S → (O → SinkState) → O → O
    → (P → ProbeState) → Vec P Global → Vec P Global → Type 0
SparesAskedOn m names shelf s s' out o o' tell ps qs =
    Spares (command_task m) (asked names) (world (shelf s) (out o) tell ps.items) (world (shelf s') (out o') tell qs.items)

-- the asked probes were shown the run of an answer
abbrev pub ShownOn : {P : Type 0} → Answer → FileNames → (P → ProbeState) → Vec P Global → Vec P Global → Type 0
ShownOn a names tell ps qs = ShowsAnswer a (asked names) (map tell ps.items) (map tell qs.items)

-- what became of the probes, where they are asked for these files; by what the words ask for; and by the words and the status
abbrev pub AttendsAskedOn : {S P : Type 0} → Command → FileNames → (S → ShelfState) → S → (P → ProbeState) → Vec P Global → Vec P Global
    → Result Status Refusal → Type 0
AttendsAskedOn m names shelf s tell ps qs r = Attends m (asked names) (shelf s).holds ps.items qs.items (map tell ps.items) (map tell qs.items) r

abbrev pub AttendsOn : {S P : Type 0} → Option Command → (S → ShelfState) → S → (P → ProbeState) → Vec P Global → Vec P Global → Result Status Refusal → Type 0
AttendsOn m shelf s tell ps qs r = AttendsFor m (shelf s).holds ps.items qs.items (map tell ps.items) (map tell qs.items) r

abbrev pub AttendedOn : {S P : Type 0} → List (String Global) → (S → ShelfState) → S → (P → ProbeState) → Vec P Global → Vec P Global → Status → Type 0
AttendedOn words shelf s tell ps qs status =
    Attended (command_of (map string_bytes words)) (shelf s).holds ps.items qs.items (map tell ps.items) (map tell qs.items) status

-- what the words ask for was done, or it stops; and what stays in any case
abbrev pub DoesOn : {S O P : Type 0} → Option Command → (S → ShelfState) → S → S → (O → SinkState) → O → O
    → (P → ProbeState) → Vec P Global → Vec P Global → Result Status Refusal → Type 0
DoesOn m shelf s s' out o o' tell ps qs r = DoesCommand m (world (shelf s) (out o) tell ps.items) (world (shelf s') (out o') tell qs.items) r

abbrev pub SparesOn : {S O P : Type 0} → Option Command → (S → ShelfState) → S → S → (O → SinkState) → O → O
    → (P → ProbeState) → Vec P Global → Vec P Global → Type 0
SparesOn m shelf s s' out o o' tell ps qs = SparesFor m (world (shelf s) (out o) tell ps.items) (world (shelf s') (out o') tell qs.items)

-- how a call of the program with these words ends, with what was sent to standard error; and what follows from it
abbrev pub EndsOn : {S O E P : Type 0} → List (String Global) → (S → ShelfState) → S → S → (O → SinkState) → O → O
    → (E → SinkState) → E → E → (P → ProbeState) → Vec P Global → Vec P Global → Status → Type 0
EndsOn words shelf s s' out o o' err e e' tell ps qs status =
    EndsBy (command_of (map string_bytes words)) (world (shelf s) (out o) tell ps.items) (world (shelf s') (out o') tell qs.items) (err e) (err e') status

abbrev pub FollowsOn : {S O P : Type 0} → List (String Global) → (S → ShelfState) → S → S → (O → SinkState) → O → O
    → (P → ProbeState) → Vec P Global → Vec P Global → Status → Type 0
FollowsOn words shelf s s' out o o' tell ps qs status =
    Follows (command_of (map string_bytes words)) (world (shelf s) (out o) tell ps.items) (world (shelf s') (out o') tell qs.items) status
