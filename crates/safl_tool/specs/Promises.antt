-- What `check`, `sim`, `session` and `aig` come to, said of words, files, what is printed and the status alone.
use Rattle.std.specs.Prelude.{◌≡◌, ℕ, List, [], ◌∷◌, ◌++◌, length, map, true, codes, string_bytes}
use Rattle.std.specs.List.{flat_map, AllZip}
use Rattle.std.specs.declared.string.String.{String}
use Rattle.std.specs.declared.alloc.Global.{Global}
use Rattle.safl_word.specs.Words.{Word}
use Rattle.safl_io.specs.Shelf.{ShelfState}
use Rattle.safl_io.specs.Sink.{SinkState, Sends}
use Rattle.safl_io.specs.Told.{TellsOn}
use Rattle.safl_sim.specs.declared.done.Done.{Done as Reply}
use Rattle.safl_term.specs.Program.{Program}
use Rattle.safl_term.specs.Names.{Names}
use Rattle.safl_circuit.specs.Correct.{IsExactResult}
use Rattle.safl_session.specs.Lines.{AreArguments}
use Rattle.safl_session.specs.Scripts.{IsScript}
use Rattle.safl_session.specs.Circuits.{IsMainReply}
use Rattle.safl_session.specs.Transcripts.{calls_line, reply_line}
use Rattle.safl_compiler.specs.Sources.{IsSourceOf}
use Rattle.safl_command.specs.Apart.{Traces, are_apart}
use Rattle.safl_command.specs.Arranged.{GivenOption, Arranged}
use Rattle.safl_command.specs.Laws.{IsName, IsLimit, option, trace_options}
use Rattle.safl_task.specs.Tasks.{OfFile}
use Rattle.safl_task.specs.declared.status.Status.{Status}
use Rattle.safl_task.specs.declared.status.Status.TheVariants.{Ok}
use Rattle.safl_tool.specs.Printed.{program_lines, done_lines}
use Rattle.safl_tool.specs.BitLevel.{IsConverted}
use Rattle.safl_tool.specs.Headline.{Turns}

-- the words are a command's own, and then these words in order, with these options at any place
abbrev pub Say : List ℕ → List (List ℕ) → List GivenOption → List (List ℕ) → Type 0
Say command names options words = (line : List (List ℕ)) × Arranged names options line × (words ≡ command ∷ line)

-- where the sink tells what was sent, this was: a text that is so
abbrev pub IsPrinted : (List ℕ → Type 0) → SinkState → SinkState → Type 0
IsPrinted Q before after = TellsOn (λ old new. (text : List ℕ) × Q text × Sends text old new) before.sent after.sent

-- ---- `check IN`

-- the source is that of a program, and the text tells how many functions and call sites it has
abbrev pub IsChecked : List ℕ → List ℕ → Type 0
IsChecked source text = (C : Program) × (D : Names) × IsSourceOf source C D × (text ≡ program_lines C.functions C.sites)

abbrev pub Checks : {S O : Type 0} → List (String Global) → (S → ShelfState) → S → (O → SinkState) → O → O → Status → Type 0
Checks words shelf s out o o' status =
    (input : List ℕ) → IsName input × Say (codes "check") (input ∷ []) [] (map string_bytes words) → status ≡ Ok
    → OfFile (shelf s).holds input (λ source. IsPrinted (IsChecked source) (out o) (out o'))

-- ---- `sim IN --cycles L [--vcd F1] [--starts F2] [--toggles F3] [ARG..]`

-- the source is that of a program, the arguments are words for main, and the text tells main's value and the cycle in which it came
abbrev pub IsSimulated : List (List ℕ) → List ℕ → List ℕ → Type 0
IsSimulated args source text = (C : Program) × (D : Names) × (words : List Word) × (value : Word) × (cycle : ℕ) × IsSourceOf source C D
    × AreArguments (C.params C.main) args words × IsExactResult C words value cycle × (text ≡ done_lines value.bits cycle)

abbrev pub SimPrints : {S O : Type 0} → List (String Global) → (S → ShelfState) → S → (O → SinkState) → O → O → Status → Type 0
SimPrints words shelf s out o o' status =
    (input limit : List ℕ) (traces : Traces) (args : List (List ℕ))
    → IsName input × IsLimit limit × (are_apart traces ≡ true)
    × Say (codes "sim") (input ∷ args) (option (codes "cycles") limit (trace_options traces)) (map string_bytes words) → status ≡ Ok
    → OfFile (shelf s).holds input (λ source. IsPrinted (IsSimulated args source) (out o) (out o'))

-- ---- `session IN SCRIPT --cycles L`

-- The source is that of a program, the script has these calls of main, and each has a line of the text with main's value and its cycle.
abbrev pub IsSession : List ℕ → List ℕ → List ℕ → Type 0
IsSession source script text = (C : Program) × (D : Names) × (calls : List (List Word)) × (replies : List Reply) × IsSourceOf source C D
    × IsScript (C.params C.main) script calls × AllZip (IsMainReply C) calls replies × (text ≡ flat_map reply_line replies ++ calls_line (length calls))

abbrev pub SessionPrints : {S O : Type 0} → List (String Global) → (S → ShelfState) → S → (O → SinkState) → O → O → Status → Type 0
SessionPrints words shelf s out o o' status =
    (input script limit : List ℕ) → IsName input × IsName script × IsLimit limit
    × Say (codes "session") (input ∷ script ∷ []) (option (codes "cycles") limit []) (map string_bytes words) → status ≡ Ok
    → OfFile (shelf s).holds input (λ source. OfFile (shelf s).holds script (λ lines. IsPrinted (IsSession source lines) (out o) (out o')))

-- ---- `aig FILE OUT`

abbrev pub Converts : {S : Type 0} → List (String Global) → (S → ShelfState) → S → S → Status → Type 0
Converts words shelf s s' status =
    (input output : List ℕ) → IsName input × IsName output × Say (codes "aig") (input ∷ output ∷ []) [] (map string_bytes words) → status ≡ Ok
    → TellsOn (Turns IsConverted input output) (shelf s).holds (shelf s').holds

-- ---- parts by name

abbrev pub EachReply : Program → List (List Word) → List Reply → Type 0
EachReply C calls rs = AllZip (IsMainReply C) calls rs
