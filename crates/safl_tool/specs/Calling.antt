-- What a session of a source's circuit gives.
use Rattle.std.specs.Prelude.{◌≡◌, ℕ, ◌-◌, List, length, All, slice_index, ◌==◌, ◌++◌, codes}
use Rattle.std.specs.Fmt.{decimal}
use Rattle.safl_word.specs.Words.{Word}
use Rattle.safl_net.specs.Netlist.{Netlist}
use Rattle.safl_net.specs.Rules.{IsNetlist}
use Rattle.safl_net.specs.Valuations.{reset_state}
use Rattle.safl_term.specs.Program.{Program}
use Rattle.safl_term.specs.Names.{Names}
use Rattle.safl_session.specs.Lines.{ScriptFault, Count, Argument}
use Rattle.safl_sim.specs.declared.done.Done.{Done as Reply}
use Rattle.safl_session.specs.Scripts.{IsScript, IsScriptFault}
use Rattle.safl_session.specs.Circuits.{Serves, IsInTime}
use Rattle.safl_compiler.specs.Sources.{IsSourceOf}
use Rattle.safl_compiler.specs.Circuits.{IsCircuitOf}
use Rattle.safl_session.specs.Transcripts.{transcript}
use Rattle.safl_tool.specs.Lines.{count_line, argument_line}
use Rattle.safl_task.specs.Tasks.{Given, only_prints}

-- The source spells a program, each line of the script has words for main's parameters, and these are the replies of a netlist
-- that is the program's circuit, from reset, one call after another. Each reply is main's, and each call starts in a quiet state.
pub record Converses (source script : List ℕ) (limit : ℕ) (calls : List (List Word)) (replies : List Reply) : Type 0 where
  pub program : Program
  pub names : Names
  pub net : Netlist
  pub source_of : IsSourceOf source program names
  pub circuit : IsCircuitOf program names net
  pub made : IsNetlist net
  pub read : IsScript (program.params program.main) script calls
  pub serves : Serves program names net limit (reset_state net) calls replies

-- what a session of the source gives for a script: the transcript of the replies, which is a result if each call has its reply
abbrev pub GivesReplies : ℕ → List ℕ → List ℕ → Given → Type 0
GivesReplies limit source script g = (calls : List (List Word)) × (replies : List Reply) × Converses source script limit calls replies
    × (g ≡ only_prints (length replies == length calls) (transcript limit (length calls) replies))

-- the line that reports a fault of a script, for parameters of these widths
abbrev pub script_line : List ℕ → ScriptFault → List ℕ
script_line widths (Count line given) = codes "line " ++ decimal line ++ codes ": " ++ count_line (length widths) given
script_line widths (Argument line place) = codes "line " ++ decimal line ++ codes ": " ++ argument_line place (slice_index widths (place - 1))

-- the source spells a program, and the script has a first faulty line for main's parameters, which the line reports
abbrev pub IsMisscripted : List ℕ → List ℕ → List ℕ → Type 0
IsMisscripted source script line = (C : Program) × (D : Names) × (fault : ScriptFault) × IsSourceOf source C D
    × IsScriptFault (C.params C.main) script fault × (line ≡ script_line (C.params C.main) fault)

-- The source spells a program, and main gives a value for the words of each line; the last cycle for `done` is below the limit.
abbrev pub EvaluatesEach : List ℕ → List ℕ → ℕ → Type 0
EvaluatesEach source script limit = (C : Program) × (D : Names) × (calls : List (List Word)) × IsSourceOf source C D
    × IsScript (C.params C.main) script calls × All (IsInTime C limit) calls

-- ---- parts by name

abbrev pub told : ℕ → List (List Word) → List Reply → Given
told limit calls replies = only_prints (length replies == length calls) (transcript limit (length calls) replies)
