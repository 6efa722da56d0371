-- The task of each command: what it reads, refuses and gives.
use Rattle.std.specs.Prelude.{◌≡◌, ℕ, ◌⊎◌, List, [], ◌∷◌, ◌++◌, take, Option, Some, None, is_some, true, false, Bool, codes, cond, map}
use Rattle.std.specs.Fmt.{decimal}
use Rattle.safl_word.specs.Words.{Word}
use Rattle.safl_word.specs.Faults.{fault_text}
use Rattle.safl_word.specs.declared.fault.Fault.{Fault}
use Rattle.safl_net.specs.Netlist.{Netlist}
use Rattle.safl_net.specs.Valuations.{Valuation}
use Rattle.safl_net.specs.Written.{written}
use Rattle.safl_net.specs.Rules.{IsNetlist}
use Rattle.safl_net.specs.Arguments.{argument_widths}
use Rattle.safl_aiger.specs.Circuits.{Circuit}
use Rattle.safl_aiger.specs.Reads.{AigReads}
use Rattle.safl_aig.specs.BitLevel.{IsLight}
use Rattle.safl_verilog.specs.Reads.{Reads}
use Rattle.safl_term.specs.Program.{Program}
use Rattle.safl_sim.specs.declared.done.Done.{Done}
use Rattle.safl_core.specs.declared.walking.Walked.{Walked}
use Rattle.safl_term.specs.Names.{Names}
use Rattle.safl_compiler.specs.Sources.{IsSourceOf, HasFirstFault}
use Rattle.safl_compiler.specs.Circuits.{IsCircuitOf}
use Rattle.safl_compiler.specs.Optimised.{IsOptimisedOf}
use Rattle.safl_tool.specs.Arguments.{HaveFault}
use Rattle.safl_tool.specs.Sources.{IsAccepted}
use Rattle.safl_command.specs.Commands.{Command, Check, Build, Sim, Walk, Run, Optimise, Report, Gen, Bench, CopySite, UnfoldSite, Session, Aig, Aigstat}
use Rattle.safl_probe.specs.Asked.{Asked}
use Rattle.safl_probe.specs.Texts.{trace}
use Rattle.safl_probe.specs.Runs.{IsRunOf, until_done}
use Rattle.safl_command.specs.Traces.{Traces}
use Rattle.safl_tool.specs.Tracing.{asked_by, have_probes, given_files}
use Rattle.safl_tool.specs.BitLevel.{GivesBits, GivesCounts, RefusesAig, RefusesBitsOf}
use Rattle.safl_tool.specs.Calling.{GivesReplies, IsMisscripted, EvaluatesEach}
use Rattle.safl_task.specs.Inputs.{file_within}
use Rattle.safl_task.specs.Limits.{script_max, verilog_max, aig_max}
use Rattle.safl_word.specs.Limits.{source_max}
use Rattle.safl_tool.specs.Lines.{placed_line, line_at, column_at, usage_line}
use Rattle.safl_tool.specs.Printed.{program_lines, outcome_lines}
use Rattle.safl_tool.specs.Running.{RunsText, IsUnrunnable, IsRunnable}
use Rattle.safl_tool.specs.Reporting.{GivesReport, Measures, made_source, made_args}
use Rattle.safl_tool.specs.Reshaping.{Reshaping, copies, unfolds, IsUnshaped, IsReshapable, GivesReshaped}
use Rattle.safl_tool.specs.Simulating.{Simulates, InCycles, InEvents, Evaluates}
use Rattle.safl_tool.specs.Walking.{Walks}
use Rattle.safl_task.specs.Tasks.{Given, Task, only_prints, only_writes, reading, reading_both, making}
use Rattle.safl_task.specs.declared.status.Status.{Status}
use Rattle.safl_task.specs.declared.status.Status.TheVariants as status

-- the source with this name has a first fault, which the line reports
abbrev pub RefusesSourceOf : List ℕ → List ℕ → Status → List ℕ → Type 0
RefusesSourceOf name source s line = (s ≡ status.SourceRefused)
    × ((f : Fault) × HasFirstFault source f × (line ≡ placed_line name (line_at source f.place) (column_at source f.place) (fault_text f)))

-- the source is refused; or it is accepted, and the arguments do not fit main's parameters
abbrev pub RefusesGiven : List ℕ → List (List ℕ) → List ℕ → Status → List ℕ → Type 0
RefusesGiven name args source s line = RefusesSourceOf name source s line
    ⊎ ((s ≡ status.BadArgs) × ((C : Program) × (D : Names) × IsSourceOf source C D × HaveFault (C.params C.main) args line))

-- the Verilog file with this name reads as no netlist without a loop; or it does, and the arguments do not fit its inputs
abbrev pub RefusesText : List ℕ → List (List ℕ) → List ℕ → Status → List ℕ → Type 0
RefusesText name args text s line = ((s ≡ status.VerilogRefused) × IsUnrunnable name text line)
    ⊎ ((s ≡ status.BadArgs) × ((n : Netlist) × IsRunnable text n × HaveFault (argument_widths n.signals) args line))

-- the task of words that do not form a command
abbrev pub usage_task : Task
usage_task = making (λ s line. (s ≡ status.Usage) × (line ≡ usage_line)) (λ g. ⊥) ⊥

-- `check` gives, for a source, the numbers of its program
abbrev pub GivesNumbers : List ℕ → Given → Type 0
GivesNumbers source g = (C : Program) × (D : Names) × IsSourceOf source C D × (g ≡ only_prints true (program_lines C.functions C.sites))

-- The text of this netlist is given, and the netlist is the circuit of the source's program. The text reads as it. No proper prefix
-- of the text reads as a netlist, except for the text without its last line feed.
pub record WritesCircuit (source : List ℕ) (net : Netlist) (g : Given) : Type 0 where
  pub program : Program
  pub names : Names
  pub source_of : IsSourceOf source program names
  pub circuit : IsCircuitOf program names net
  pub made : IsNetlist net
  pub reads : Reads (written net) net
  pub torn : (count : ℕ) → ((m : Netlist) → ¬ Reads (take count (written net)) m)
      ⊎ (take count (written net) ≡ written net) ⊎ (take count (written net) ++ codes "\n" ≡ written net)
  pub is : g ≡ only_writes (written net)

-- some lines, and then those of the outcome of a run. They are a result if `done` came
abbrev pub outcome_after : List ℕ → ℕ → Option Done → Given
outcome_after head limit answer = only_prints (is_some answer) (head ++ outcome_lines limit answer)

-- what a run of a source's circuit gives, with the traces of its cycles up to the first with `done` at 1
pub record GivesTraces (traces : Traces) (args : List (List ℕ)) (limit : ℕ) (source : List ℕ) (g : Given) : Type 0 where
  pub answer : Option Done
  pub simulates : Simulates source args limit answer
  pub run : List Valuation
  pub is_run : IsRunOf simulates.net simulates.words limit run
  pub is : g ≡ record (outcome_after [] limit answer) {
    texts = map (λ (f : List ℕ × ℕ). trace f.1 simulates.net (until_done simulates.net run)) (given_files traces);
  }

-- a walk prints main's result, the number of events and the greatest number of busy units; or that no result came within this many events
abbrev pub end_of_walk : ℕ → Walked → Option Word → Given
end_of_walk steps w (Some v) =
    only_prints true (codes "result " ++ decimal v.bits ++ codes "\nevents " ++ decimal w.events ++ codes "\nunits " ++ decimal w.units ++ codes "\n")
end_of_walk steps w None = only_prints false (codes "no result in " ++ decimal steps ++ codes " events\n")

-- what a walk of a source's call machine gives
abbrev pub GivesWalk : List (List ℕ) → ℕ → ℕ → List ℕ → Given → Type 0
GivesWalk args seed steps source g = (w : Walked) × Walks source args seed steps w × (g ≡ end_of_walk steps w w.result)

-- what a run of the netlist of a Verilog file gives
abbrev pub GivesRun : List (List ℕ) → ℕ → List ℕ → Given → Type 0
GivesRun args limit text g = (answer : Option Done) × RunsText text args limit answer × (g ≡ outcome_after [] limit answer)

-- what `bench` gives for a source: the numbers of its program, the summary of its plan, and the outcome of a run of its circuit
abbrev pub GivesMeasure : List (List ℕ) → ℕ → List ℕ → Given → Type 0
GivesMeasure args limit source g = (head : List ℕ) × (answer : Option Done) × Measures source args limit head answer × (g ≡ outcome_after head limit answer)

abbrev pub reshape_task : Reshaping → List ℕ → List ℕ → ℕ → Task
reshape_task r input output site =
    reading (file_within input source_max) (output ∷ []) (λ source s line. RefusesSourceOf input source s line ⊎ IsUnshaped r site source s line)
    (GivesReshaped r) (IsReshapable r)

-- The task of each command. With `--opt`, `build` gives a circuit none of whose temporary wires could be spared. A generated source
-- is refused as any other is; its name would be `bench`.
abbrev pub command_task : Command → Task
command_task (Check input) = reading (file_within input source_max) [] (RefusesSourceOf input) GivesNumbers IsAccepted
command_task (Build input output) =
    reading (file_within input source_max) (output ∷ []) (RefusesSourceOf input) (λ source g. (net : Netlist) × WritesCircuit source net g) IsAccepted
command_task (Optimise input output) =
    reading (file_within input source_max) (output ∷ []) (RefusesSourceOf input)
    (λ source g. (net : Netlist) × (w : WritesCircuit source net g) × IsOptimisedOf w.program w.names net) IsAccepted
command_task (Sim input limit traces args) =
    reading (file_within input source_max) (map (λ (f : List ℕ × ℕ). f.0) (given_files traces)) (RefusesGiven input args)
    (GivesTraces traces args limit) (λ source. Evaluates source args (InCycles limit))
command_task (Walk input seed steps args) =
    reading (file_within input source_max) [] (RefusesGiven input args) (GivesWalk args seed steps) (λ source. Evaluates source args (InEvents steps))
command_task (Run input limit args) =
    reading (file_within input verilog_max) [] (RefusesText input args) (GivesRun args limit) (λ text. (d : Done) × RunsText text args limit (Some d))
command_task (Report input) = reading (file_within input source_max) [] (RefusesSourceOf input) GivesReport IsAccepted
command_task (Gen seed count) = making (λ s line. ⊥) (λ g. g ≡ only_prints true (made_source seed count)) (Unit {0})
command_task (Bench seed count limit) =
    making (RefusesGiven (codes "bench") (made_args seed count) (made_source seed count)) (GivesMeasure (made_args seed count) limit (made_source seed count))
    (Evaluates (made_source seed count) (made_args seed count) (InCycles limit))
command_task (CopySite input output site) = reshape_task (copies site) input output site
command_task (UnfoldSite input output site) = reshape_task (unfolds site) input output site
command_task (Session input script limit) =
    reading_both (file_within input source_max) (file_within script script_max)
    (λ source text s line. RefusesSourceOf input source s line ⊎ ((s ≡ status.BadArgs) × IsMisscripted source text line))
    (GivesReplies limit) (λ source text. EvaluatesEach source text limit)
command_task (Aig input output) =
    reading (file_within input verilog_max) (output ∷ []) (RefusesBitsOf input) GivesBits (λ text. (n : Netlist) × IsRunnable text n × IsLight n)
command_task (Aigstat input) = reading (file_within input aig_max) [] (RefusesAig input) GivesCounts (λ text. (a : Circuit) × AigReads text a)

-- the files for the traces that a command asks for
abbrev pub traces_in : Command → Traces
traces_in (Sim input limit traces args) = traces
traces_in _ = record { vcd = None; starts = None; toggles = None }

-- The task of a command line, with probes of these kinds. Words that are no command are refused, and so is a trace that none can write.
abbrev pub task_of : List ℕ → Option Command → Task
task_of kinds None = usage_task
task_of kinds (Some m) = cond (have_probes (traces_in m) kinds) (command_task m) usage_task

-- which probes a command asks, and for which files
abbrev pub asks_of : List ℕ → Option Command → Asked
asks_of kinds None = []
asks_of kinds (Some m) = asked_by (traces_in m) kinds

-- ---- parts by name

abbrev pub RefusesNet : List ℕ → List ℕ → Status → List ℕ → Type 0
RefusesNet name text s line = (s ≡ status.VerilogRefused) × IsUnrunnable name text line

abbrev pub GivesCircuit : List ℕ → Given → Type 0
GivesCircuit source g = (net : Netlist) × WritesCircuit source net g

abbrev pub GivesOptimised : List ℕ → Given → Type 0
GivesOptimised source g = (net : Netlist) × (w : WritesCircuit source net g) × IsOptimisedOf w.program w.names net

abbrev pub outcome : ℕ → Option Done → Given
outcome = outcome_after []

abbrev pub traced : ℕ → Option Done → List (List ℕ) → Given
traced limit answer texts = record (outcome limit answer) { texts = texts }

abbrev pub RefusesReshaping : Reshaping → List ℕ → ℕ → List ℕ → Status → List ℕ → Type 0
RefusesReshaping r name site source s line = RefusesSourceOf name source s line ⊎ IsUnshaped r site source s line

abbrev pub RefusesSession : List ℕ → List ℕ → List ℕ → Status → List ℕ → Type 0
RefusesSession name source script s line = RefusesSourceOf name source s line ⊎ ((s ≡ status.BadArgs) × IsMisscripted source script line)

abbrev pub task_if : Bool → Task → Task → Task
task_if b first second = cond b first second
