-- How a call of the program ends.
use Rattle.std.specs.Prelude.{◌≡◌, ℕ, List, [], ◌∷◌, map, Some, Result, Ok, Err, Bool, string_bytes}
use Rattle.std.specs.declared.string.String.{String}
use Rattle.std.specs.declared.alloc.Global.{Global}
use Rattle.safl_io.specs.Shelf.{ShelfState}
use Rattle.safl_io.specs.Sink.{SinkState}
use Rattle.safl_word.specs.Words.{Word}
use Rattle.safl_term.specs.Names.{Names}
use Rattle.safl_term.specs.Program.{Program}
use Rattle.safl_sites.specs.Plan.{Choice, IsPlan}
use Rattle.safl_span.specs.Figures.{AreFigures}
use Rattle.safl_span.specs.declared.figures.Figures.{Figures}
use Rattle.safl_session.specs.Lines.{AreArguments}
use Rattle.safl_compiler.specs.Sources.{IsSourceOf}
use Rattle.safl_task.specs.Endings.{Outside, outside, Stops, Ended, Ends}
use Rattle.safl_task.specs.Tasks.{Task, OfFile, status_if}
use Rattle.safl_task.specs.declared.status.Status.{Status}
use Rattle.safl_task.specs.declared.status.Status.TheVariants as status
use Rattle.safl_tool.specs.Promises.{IsPrinted}
use Rattle.safl_tool.specs.Refusals.{StopsBy, Prints, PrintFails, SendsLine, SendsRefusal}
use Rattle.safl_timing.specs.Lines.{blind_line}
use Rattle.safl_timing.specs.Requests.{Request, Time, Blind, asks, request_of}
use Rattle.safl_timing.specs.Secrets.{HidesSecrets}
use Rattle.safl_timing.specs.Tasks.{request_task, task_of, lines_of}
use Rattle.safl_timing.specs.declared.timing.Lines.{Lines}
use Rattle.safl_timing.specs.declared.stop.Stop.{Stop}
use Rattle.safl_timing.specs.declared.stop.Stop.TheVariants.{Refused, Nameless}

-- no line says that a probe failed, since there are none
abbrev pub NoProbe : List ℕ → Type 0
NoProbe line = ⊥

-- the first of some contents; empty if there is none
abbrev pub first_of : List (List ℕ) → List ℕ
first_of [] = []
first_of (c ∷ cs) = c

-- the task was done, or it stops
abbrev pub Does : Task → Outside → Outside → Result Status Stop → Type 0
Does t old new (Ok s) = Ended t old new s
Does t old new (Err (Refused r)) = StopsBy t NoProbe old new r
Does t old new (Err (Nameless line)) = Stops t NoProbe old new status.BadArgs line.items

-- the line of a stop was sent
abbrev pub SendsStop : Stop → SinkState → SinkState → Status → Type 0
SendsStop (Refused r) before after s = SendsRefusal r before after s
SendsStop (Nameless line) before after s = SendsLine status.BadArgs line.items before after s

-- lines were printed, or not
abbrev pub PrintsBy : Lines → SinkState → SinkState → Result Status Stop → Type 0
PrintsBy l before after (Ok s) = (s ≡ status_if l.comes) × Prints l.text.items before after × (after.faults ≡ before.faults)
PrintsBy l before after (Err (Refused r)) = PrintFails l.text.items before after r
PrintsBy l before after (Err (Nameless line)) = ⊥

-- what is asked for was done, or it stops
abbrev pub DoesOn : {S O : Type 0} → Request → (S → ShelfState) → S → S → (O → SinkState) → O → O → Result Status Stop → Type 0
DoesOn r shelf s s' out o o' result = Does (request_task r) (outside (shelf s) (out o)) (outside (shelf s') (out o')) result

-- how a call of the program with these words ends, with what was sent to standard error
abbrev pub EndsOn : {S O E : Type 0} → List (String Global) → (S → ShelfState) → S → S → (O → SinkState) → O → O
    → (E → SinkState) → E → E → Status → Type 0
EndsOn words shelf s s' out o o' err e e' result =
    Ends (task_of (request_of (map string_bytes words))) NoProbe (outside (shelf s) (out o)) (outside (shelf s') (out o')) (err e) (err e') result

-- The source is that of a program, the arguments are words for main's parameters, and the text tells the figures of main's evaluation.
abbrev pub IsTimed : List (List ℕ) → List ℕ → List ℕ → Type 0
IsTimed args source text = (C : Program) × (D : Names) × (P : Choice) × (words : List Word) × (f : Figures) × IsSourceOf source C D × IsPlan C P.arbiter P.kept
    × AreArguments (C.params C.main) args words × AreFigures C P words f × (text ≡ lines_of f)

-- where words that are a file's name and arguments end with Ok, the figures by the file's source were printed
abbrev pub TimesOn : {S O : Type 0} → List (String Global) → (S → ShelfState) → S → (O → SinkState) → O → O → Status → Type 0
TimesOn words shelf s out o o' result =
    (input : List ℕ) (args : List (List ℕ)) → request_of (map string_bytes words) ≡ Some (asks input (Time args)) → result ≡ status.Ok
    → OfFile (shelf s).holds input (λ source. IsPrinted (IsTimed args source) (out o) (out o'))

-- the source is that of a program, no secret parameter of main decides about its time, and the text says so
abbrev pub IsBlind : Bool → List ℕ → List ℕ → List ℕ → Type 0
IsBlind listed list source text = (C : Program) × (D : Names) × IsSourceOf source C D × HidesSecrets C D listed list × (text ≡ blind_line)

-- where words that are a file's name and a list of secret parameters, or of the others, end with Ok, this was printed
abbrev pub BlindOn : {S O : Type 0} → List (String Global) → (S → ShelfState) → S → (O → SinkState) → O → O → Status → Type 0
BlindOn words shelf s out o o' result =
    (input list : List ℕ) (listed : Bool) → request_of (map string_bytes words) ≡ Some (asks input (Blind listed list)) → result ≡ status.Ok
    → OfFile (shelf s).holds input (λ source. IsPrinted (IsBlind listed list source) (out o) (out o'))
