-- What a request reads, refuses and gives.
use Rattle.std.specs.Prelude.{◌≡◌, ℕ, ◌⊎◌, List, [], Option, Some, None, true, false}
use Rattle.safl_word.specs.Words.{Word}
use Rattle.safl_word.specs.Limits.{source_max}
use Rattle.safl_term.specs.Names.{Names}
use Rattle.safl_term.specs.Program.{Program}
use Rattle.safl_sites.specs.Plan.{Choice, IsPlan}
use Rattle.safl_interpreter.specs.Measured.{TakesMore}
use Rattle.safl_span.specs.Figures.{AreFigures}
use Rattle.safl_span.specs.declared.figures.Figures.{Figures}
use Rattle.safl_session.specs.Lines.{AreArguments}
use Rattle.safl_compiler.specs.Sources.{IsSourceOf}
use Rattle.safl_task.specs.Inputs.{file_within}
use Rattle.safl_task.specs.Tasks.{Given, Task, only_prints, reading, making}
use Rattle.safl_task.specs.declared.status.Status.{Status}
use Rattle.safl_task.specs.declared.status.Status.TheVariants as status
use Rattle.safl_tool.specs.CommandTasks.{RefusesGiven}
use Rattle.safl_timing.specs.Lines.{usage_line, timing_lines, late_line}
use Rattle.safl_timing.specs.Requests.{Request, Asked, Time, Blind}
use Rattle.safl_timing.specs.Secrets.{GivesBlind, RefusesNames}
use Rattle.safl_timing.specs.declared.timing.Lines.{Lines}

-- lines as what is given
abbrev pub shown : Lines → Given
shown l = only_prints l.comes l.text.items

-- the greatest number of calls of an evaluation that is measured
abbrev pub calls_max : ℕ
calls_max = 4294967295

abbrev pub lines_of : Figures → List ℕ
lines_of f = timing_lines f.word.bits f.calls f.loops f.span f.latest f.exact

-- the figures of an evaluation of main are printed; or each takes more calls, and a line says so
abbrev pub GivesFigures : Program → Choice → List Word → Given → Type 0
GivesFigures C P words g = ((f : Figures) × AreFigures C P words f × (g ≡ only_prints true (lines_of f))) ⊎ (TakesMore C words calls_max × (g ≡ only_prints false (late_line calls_max)))

-- the source spells a program with this plan, and the arguments are words for main's parameters
pub record GivesTime (args : List (List ℕ)) (source : List ℕ) (g : Given) : Type 0 where
  pub program : Program
  pub names : Names
  pub choice : Choice
  pub words : List Word
  pub source_of : IsSourceOf source program names
  pub plan : IsPlan program choice.arbiter choice.kept
  pub arguments : AreArguments (program.params program.main) args words
  pub gives : GivesFigures program choice words g

-- what is given for a source, by what is asked for
abbrev pub Gives : Asked → List ℕ → Given → Type 0
Gives (Time args) = GivesTime args
Gives (Blind listed list) = GivesBlind listed list

-- with which status and line a source is refused, by its name and what is asked for
abbrev pub Refuses : List ℕ → Asked → List ℕ → Status → List ℕ → Type 0
Refuses input (Time args) = RefusesGiven input args
Refuses input (Blind listed list) = RefusesNames input list

-- the task of words that make no request
abbrev pub usage_task : Task
usage_task = making (λ s line. (s ≡ status.Usage) × (line ≡ usage_line)) (λ g. ⊥) ⊥

-- the task of a request
abbrev pub request_task : Request → Task
request_task r = reading (file_within r.input source_max) [] (Refuses r.input r.asked) (Gives r.asked) (λ source. ⊥)

abbrev pub task_of : Option Request → Task
task_of None = usage_task
task_of (Some r) = request_task r
