use Rattle.safl_tool.proofs.Common.{Declines, EvaluatesEach, GivesReplies, IfErr, IfOk, IsAccepted, IsReadyOf, IsReadySession, Ready}
use Rattle.safl_tool.proofs.Common.{ReadySession, RefusesBy, source_max}
use Rattle.std.proofs.Common.{◌≡◌, ◌≤◌, ℕ, List, String, Global, [], ◌∷◌, None, length, map, string_bytes, codes, refl, sym, subst, true, ◌∙◌}
use Rattle.safl_command.specs.Commands.{Bench, Gen, shown_command}
use Rattle.safl_command.specs.Traces.{shown_traces}
use Rattle.safl_command.specs.declared.command.Command.{Command}
use Rattle.safl_task.specs.Inputs.{shown_contents, file_within}
use Rattle.safl_task.specs.Limits.{script_max, verilog_max, aig_max}
use Rattle.safl_task.specs.Tasks.{Task, AreContents, only_prints}
use Rattle.safl_tool.specs.Answers.{Answers, printed, traces_for}
use Rattle.safl_tool.specs.BitLevel.{GivesBits, GivesCounts, HasBits, IsAig, RefusesAig, RefusesBitsOf}
use Rattle.safl_tool.specs.CommandTasks.{command_task, traces_in, GivesMeasure, RefusesSourceOf}
use Rattle.safl_tool.specs.CommandTasks.{RefusesGiven, RefusesText, RefusesReshaping, RefusesSession, GivesNumbers, GivesCircuit, GivesOptimised}
use Rattle.safl_tool.specs.CommandTasks.{GivesTraces, GivesWalk, GivesRun}
use Rattle.safl_tool.specs.Reporting.{GivesReport, made_args, made_source}
use Rattle.safl_tool.specs.Reshaping.{GivesReshaped, IsReshapable, copies, unfolds}
use Rattle.safl_tool.specs.Running.{Finishes}
use Rattle.safl_tool.specs.Simulating.{Evaluates, InCycles, InEvents}
use Rattle.safl_tool.specs.Tracing.{files_for, no_traces}
use Rattle.safl_tool.specs.declared.answer.Answer.TheVariants as answer
use Rattle.safl_tool.specs.Watched.{ShowsFor}
use Rattle.safl_tool.proofs.Watched.{HasNoRun, shows_none, shows_run}
use Rattle.safl_tool.proofs.Answered.{one_within, two_within, prints, writes, answers_with, declines, both_answers, both_declines, traces_on, given_on, refused_on}
use Rattle.safl_tool.proofs.Conversed.{ready, calls_fit, gives_replies}
use Rattle.safl_tool.proofs.Traced.{can_run, gives_traces}
use Rattle.safl_tool.proofs.work.answer_of.Goals as goal

abbrev task : Command → Task
task m = command_task (shown_command m)

-- ---- Check

pub check_lines-requires : goal.check_lines-requires
check_lines-requires c = subst (λ (l : List ℕ). length l ≤ source_max) (sym c.content-first.ensures)
    (one_within (file_within (string_bytes c.in-Check.input) source_max) (shown_contents c.args.contents.now)
    (subst (λ (m : Command). AreContents None (task m).inputs (shown_contents c.args.contents.now)) c.in-Check.is c.requires))

pub returns-in-Check-clause-answers : goal.returns-in-Check-clause-answers
returns-in-Check-clause-answers c =
    subst (λ (m : Command). IfOk c.printed.result (Answers (task m) (shown_contents c.args.contents.now))) (sym c.in-Check.is)
    (prints (file_within (string_bytes c.in-Check.input) source_max) (RefusesSourceOf (string_bytes c.in-Check.input)) (GivesNumbers) (IsAccepted)
    (shown_contents c.args.contents.now) (subst (λ (m : Command). AreContents None (task m).inputs (shown_contents c.args.contents.now))
    c.in-Check.is c.requires) c.content-first.result.now c.content-first.ensures c.check_lines.result c.printed.result c.printed.ensures c.check_lines.ensures.gives)

pub returns-in-Check-clause-traces : goal.returns-in-Check-clause-traces
returns-in-Check-clause-traces c =
    subst (λ (m : Command). IfOk c.printed.result (λ a. traces_for a ≡ traces_in (shown_command m))) (sym c.in-Check.is)
    (traces_on answer.Printed c.check_lines.result c.printed.result c.printed.ensures no_traces (λ l. refl))

pub returns-in-Check-clause-shows : goal.returns-in-Check-clause-shows
returns-in-Check-clause-shows c = shows_none c.printed.result c.args.command.now (shown_contents c.args.contents.now) (subst HasNoRun (sym c.in-Check.is) tt)

pub returns-in-Check-clause-refused : goal.returns-in-Check-clause-refused
returns-in-Check-clause-refused c =
    subst (λ (m : Command). IfErr c.printed.result (Declines (task m) (shown_contents c.args.contents.now))) (sym c.in-Check.is)
    (declines (file_within (string_bytes c.in-Check.input) source_max) (RefusesSourceOf (string_bytes c.in-Check.input)) (GivesNumbers) (IsAccepted)
    (shown_contents c.args.contents.now) (subst (λ (m : Command). AreContents None (task m).inputs (shown_contents c.args.contents.now))
    c.in-Check.is c.requires) c.content-first.result.now c.content-first.ensures answer.Printed [] c.check_lines.result c.printed.result
    c.printed.ensures (subst (λ (n : List ℕ). IfErr c.check_lines.result (RefusesBy (RefusesSourceOf n c.content-first.result.now)))
    c.deref.ensures c.check_lines.ensures.refused))

-- ---- Build

pub circuit_text-requires : goal.circuit_text-requires
circuit_text-requires c = subst (λ (l : List ℕ). length l ≤ source_max) (sym c.content-first.ensures)
    (one_within (file_within (string_bytes c.in-Build.input) source_max) (shown_contents c.args.contents.now)
    (subst (λ (m : Command). AreContents None (task m).inputs (shown_contents c.args.contents.now)) c.in-Build.is c.requires))

pub returns-in-Build-clause-answers : goal.returns-in-Build-clause-answers
returns-in-Build-clause-answers c =
    subst (λ (m : Command). IfOk c.written.result (Answers (task m) (shown_contents c.args.contents.now))) (sym c.in-Build.is)
    (writes (file_within (string_bytes c.in-Build.input) source_max) (RefusesSourceOf (string_bytes c.in-Build.input)) (GivesCircuit) (IsAccepted)
    (shown_contents c.args.contents.now) (subst (λ (m : Command). AreContents None (task m).inputs (shown_contents c.args.contents.now))
    c.in-Build.is c.requires) c.content-first.result.now c.content-first.ensures c.deref-in-Build.result (string_bytes c.in-Build.output)
    c.deref-in-Build.ensures c.circuit_text.result c.written.result c.written.ensures c.circuit_text.ensures.gives)

pub returns-in-Build-clause-traces : goal.returns-in-Build-clause-traces
returns-in-Build-clause-traces c =
    subst (λ (m : Command). IfOk c.written.result (λ a. traces_for a ≡ traces_in (shown_command m))) (sym c.in-Build.is)
    (traces_on (answer.File c.deref-in-Build.result) c.circuit_text.result c.written.result c.written.ensures no_traces (λ l. refl))

pub returns-in-Build-clause-shows : goal.returns-in-Build-clause-shows
returns-in-Build-clause-shows c = shows_none c.written.result c.args.command.now (shown_contents c.args.contents.now) (subst HasNoRun (sym c.in-Build.is) tt)

pub returns-in-Build-clause-refused : goal.returns-in-Build-clause-refused
returns-in-Build-clause-refused c =
    subst (λ (m : Command). IfErr c.written.result (Declines (task m) (shown_contents c.args.contents.now))) (sym c.in-Build.is)
    (declines (file_within (string_bytes c.in-Build.input) source_max) (RefusesSourceOf (string_bytes c.in-Build.input)) (GivesCircuit) (IsAccepted)
    (shown_contents c.args.contents.now) (subst (λ (m : Command). AreContents None (task m).inputs (shown_contents c.args.contents.now))
    c.in-Build.is c.requires) c.content-first.result.now c.content-first.ensures (answer.File c.deref-in-Build.result)
    (string_bytes c.in-Build.output ∷ []) c.circuit_text.result c.written.result c.written.ensures
    (subst (λ (n : List ℕ). IfErr c.circuit_text.result (RefusesBy (RefusesSourceOf n c.content-first.result.now))) c.deref-in-Build-2.ensures
    c.circuit_text.ensures.refused))

-- ---- Optimise

pub optimised_text-requires : goal.optimised_text-requires
optimised_text-requires c = subst (λ (l : List ℕ). length l ≤ source_max) (sym c.content-first.ensures)
    (one_within (file_within (string_bytes c.in-Optimise.input) source_max) (shown_contents c.args.contents.now)
    (subst (λ (m : Command). AreContents None (task m).inputs (shown_contents c.args.contents.now)) c.in-Optimise.is c.requires))

pub returns-in-Optimise-clause-answers : goal.returns-in-Optimise-clause-answers
returns-in-Optimise-clause-answers c =
    subst (λ (m : Command). IfOk c.written-in-Optimise.result (Answers (task m) (shown_contents c.args.contents.now))) (sym c.in-Optimise.is)
    (writes (file_within (string_bytes c.in-Optimise.input) source_max) (RefusesSourceOf (string_bytes c.in-Optimise.input)) (GivesOptimised) (IsAccepted)
    (shown_contents c.args.contents.now) (subst (λ (m : Command). AreContents None (task m).inputs (shown_contents c.args.contents.now))
    c.in-Optimise.is c.requires) c.content-first.result.now c.content-first.ensures c.deref-in-Optimise.result (string_bytes c.in-Optimise.output)
    c.deref-in-Optimise.ensures c.optimised_text.result c.written-in-Optimise.result c.written-in-Optimise.ensures c.optimised_text.ensures.gives)

pub returns-in-Optimise-clause-traces : goal.returns-in-Optimise-clause-traces
returns-in-Optimise-clause-traces c =
    subst (λ (m : Command). IfOk c.written-in-Optimise.result (λ a. traces_for a ≡ traces_in (shown_command m))) (sym c.in-Optimise.is)
    (traces_on (answer.File c.deref-in-Optimise.result) c.optimised_text.result c.written-in-Optimise.result c.written-in-Optimise.ensures no_traces (λ l. refl))

pub returns-in-Optimise-clause-shows : goal.returns-in-Optimise-clause-shows
returns-in-Optimise-clause-shows c = shows_none c.written-in-Optimise.result c.args.command.now (shown_contents c.args.contents.now) (subst HasNoRun (sym c.in-Optimise.is) tt)

pub returns-in-Optimise-clause-refused : goal.returns-in-Optimise-clause-refused
returns-in-Optimise-clause-refused c =
    subst (λ (m : Command). IfErr c.written-in-Optimise.result (Declines (task m) (shown_contents c.args.contents.now))) (sym c.in-Optimise.is)
    (declines (file_within (string_bytes c.in-Optimise.input) source_max) (RefusesSourceOf (string_bytes c.in-Optimise.input)) (GivesOptimised) (IsAccepted)
    (shown_contents c.args.contents.now) (subst (λ (m : Command). AreContents None (task m).inputs (shown_contents c.args.contents.now))
    c.in-Optimise.is c.requires) c.content-first.result.now c.content-first.ensures (answer.File c.deref-in-Optimise.result)
    (string_bytes c.in-Optimise.output ∷ []) c.optimised_text.result c.written-in-Optimise.result c.written-in-Optimise.ensures
    (subst (λ (n : List ℕ). IfErr c.optimised_text.result (RefusesBy (RefusesSourceOf n c.content-first.result.now)))
    c.deref-in-Optimise-2.ensures c.optimised_text.ensures.refused))

-- ---- Sim

pub ready_source-requires : goal.ready_source-requires
ready_source-requires c = subst (λ (l : List ℕ). length l ≤ source_max) (sym c.content-first.ensures)
    (one_within (file_within (string_bytes c.in-Sim.input) source_max) (shown_contents c.args.contents.now)
    (subst (λ (m : Command). AreContents None (task m).inputs (shown_contents c.args.contents.now)) c.in-Sim.is c.requires))

pub returns-in-Sim-clause-answers : goal.returns-in-Sim-clause-answers
returns-in-Sim-clause-answers c =
    subst (λ (m : Command). IfOk c.traced.result (Answers (task m) (shown_contents c.args.contents.now))) (sym c.in-Sim.is)
    (answers_with (file_within (string_bytes c.in-Sim.input) source_max) (RefusesGiven (string_bytes c.in-Sim.input) (map string_bytes c.in-Sim.args.items))
    (GivesTraces (shown_traces c.in-Sim.traces) (map string_bytes c.in-Sim.args.items) c.in-Sim.limit)
    (λ source. Evaluates source (map string_bytes c.in-Sim.args.items) (InCycles c.in-Sim.limit)) (shown_contents c.args.contents.now)
    (subst (λ (m : Command). AreContents None (task m).inputs (shown_contents c.args.contents.now)) c.in-Sim.is c.requires)
    c.content-first.result.now c.content-first.ensures (λ (d : Ready). answer.Traced (record { ready = d; limit = c.in-Sim.limit; traces = _ }))
    (files_for (shown_traces c.in-Sim.traces)) c.ready_source.result c.traced.result c.traced.ensures (λ d. refl)
    (IsReadyOf c.content-first.result.now (map string_bytes c.in-Sim.args.items))
    (λ d of. can_run c.content-first.result.now (map string_bytes c.in-Sim.args.items) d of)
    (λ d of g h. gives_traces c.content-first.result.now (map string_bytes c.in-Sim.args.items) d of c.in-Sim.limit (shown_traces c.in-Sim.traces) g h)
    (subst (λ (x : List (String Global)). IfOk c.ready_source.result (IsReadyOf c.content-first.result.now (map string_bytes x))) c.deref-in-Sim-2.ensures.value c.ready_source.ensures.ready))

pub returns-in-Sim-clause-traces : goal.returns-in-Sim-clause-traces
returns-in-Sim-clause-traces c =
    subst (λ (m : Command). IfOk c.traced.result (λ a. traces_for a ≡ traces_in (shown_command m))) (sym c.in-Sim.is)
    (traces_on (λ (d : Ready). answer.Traced (record { ready = d; limit = c.in-Sim.limit; traces = _ })) c.ready_source.result c.traced.result
    c.traced.ensures (shown_traces c.in-Sim.traces) (λ d. refl))

pub returns-in-Sim-clause-shows : goal.returns-in-Sim-clause-shows
returns-in-Sim-clause-shows c =
    subst (λ (m : Command). IfOk c.traced.result (ShowsFor (shown_command m) (shown_contents c.args.contents.now))) (sym c.in-Sim.is)
    (shows_run (file_within (string_bytes c.in-Sim.input) source_max) (shown_contents c.args.contents.now)
    (subst (λ (m : Command). AreContents None (task m).inputs (shown_contents c.args.contents.now)) c.in-Sim.is c.requires)
    c.content-first.result.now c.content-first.ensures (map string_bytes c.in-Sim.args.items) c.in-Sim.limit _ (string_bytes c.in-Sim.input)
    (shown_traces c.in-Sim.traces) c.ready_source.result c.traced.result c.traced.ensures
    (subst (λ (x : List (String Global)). IfOk c.ready_source.result (IsReadyOf c.content-first.result.now (map string_bytes x))) c.deref-in-Sim-2.ensures.value c.ready_source.ensures.ready))

pub returns-in-Sim-clause-refused : goal.returns-in-Sim-clause-refused
returns-in-Sim-clause-refused c =
    subst (λ (m : Command). IfErr c.traced.result (Declines (task m) (shown_contents c.args.contents.now))) (sym c.in-Sim.is)
    (declines (file_within (string_bytes c.in-Sim.input) source_max) (RefusesGiven (string_bytes c.in-Sim.input) (map string_bytes c.in-Sim.args.items))
    (GivesTraces (shown_traces c.in-Sim.traces) (map string_bytes c.in-Sim.args.items) c.in-Sim.limit)
    (λ source. Evaluates source (map string_bytes c.in-Sim.args.items) (InCycles c.in-Sim.limit)) (shown_contents c.args.contents.now)
    (subst (λ (m : Command). AreContents None (task m).inputs (shown_contents c.args.contents.now)) c.in-Sim.is c.requires)
    c.content-first.result.now c.content-first.ensures (λ (d : Ready). answer.Traced (record { ready = d; limit = c.in-Sim.limit; traces = _ }))
    (files_for (shown_traces c.in-Sim.traces)) c.ready_source.result c.traced.result c.traced.ensures
    (subst (λ (n : List ℕ). IfErr c.ready_source.result (RefusesBy (RefusesGiven n (map string_bytes c.in-Sim.args.items) c.content-first.result.now))) c.deref-in-Sim.ensures
    (subst (λ (x : List (String Global)). IfErr c.ready_source.result
    (RefusesBy (RefusesGiven c.deref-in-Sim.result.now (map string_bytes x) c.content-first.result.now))) c.deref-in-Sim-2.ensures.value
    c.ready_source.ensures.refused)))

-- ---- Walk

pub walk_lines-requires : goal.walk_lines-requires
walk_lines-requires c = subst (λ (l : List ℕ). length l ≤ source_max) (sym c.content-first.ensures)
    (one_within (file_within (string_bytes c.in-Walk.input) source_max) (shown_contents c.args.contents.now)
    (subst (λ (m : Command). AreContents None (task m).inputs (shown_contents c.args.contents.now)) c.in-Walk.is c.requires))

pub returns-in-Walk-clause-answers : goal.returns-in-Walk-clause-answers
returns-in-Walk-clause-answers c =
    subst (λ (m : Command). IfOk c.printed-in-Walk.result (Answers (task m) (shown_contents c.args.contents.now))) (sym c.in-Walk.is)
    (prints (file_within (string_bytes c.in-Walk.input) source_max) (RefusesGiven (string_bytes c.in-Walk.input) (map string_bytes c.in-Walk.args.items))
    (GivesWalk (map string_bytes c.in-Walk.args.items) c.in-Walk.turns.seed c.in-Walk.turns.steps)
    (λ source. Evaluates source (map string_bytes c.in-Walk.args.items) (InEvents c.in-Walk.turns.steps)) (shown_contents c.args.contents.now)
    (subst (λ (m : Command). AreContents None (task m).inputs (shown_contents c.args.contents.now)) c.in-Walk.is c.requires)
    c.content-first.result.now c.content-first.ensures c.walk_lines.result c.printed-in-Walk.result c.printed-in-Walk.ensures
    (subst (λ (x : List (String Global)). IfOk c.walk_lines.result
    (λ l. GivesWalk (map string_bytes x) c.in-Walk.turns.seed c.in-Walk.turns.steps c.content-first.result.now (printed l)))
    c.deref-in-Walk-2.ensures.value c.walk_lines.ensures.gives))

pub returns-in-Walk-clause-traces : goal.returns-in-Walk-clause-traces
returns-in-Walk-clause-traces c =
    subst (λ (m : Command). IfOk c.printed-in-Walk.result (λ a. traces_for a ≡ traces_in (shown_command m))) (sym c.in-Walk.is)
    (traces_on answer.Printed c.walk_lines.result c.printed-in-Walk.result c.printed-in-Walk.ensures no_traces (λ l. refl))

pub returns-in-Walk-clause-shows : goal.returns-in-Walk-clause-shows
returns-in-Walk-clause-shows c = shows_none c.printed-in-Walk.result c.args.command.now (shown_contents c.args.contents.now) (subst HasNoRun (sym c.in-Walk.is) tt)

pub returns-in-Walk-clause-refused : goal.returns-in-Walk-clause-refused
returns-in-Walk-clause-refused c =
    subst (λ (m : Command). IfErr c.printed-in-Walk.result (Declines (task m) (shown_contents c.args.contents.now))) (sym c.in-Walk.is)
    (declines (file_within (string_bytes c.in-Walk.input) source_max) (RefusesGiven (string_bytes c.in-Walk.input) (map string_bytes c.in-Walk.args.items))
    (GivesWalk (map string_bytes c.in-Walk.args.items) c.in-Walk.turns.seed c.in-Walk.turns.steps)
    (λ source. Evaluates source (map string_bytes c.in-Walk.args.items) (InEvents c.in-Walk.turns.steps)) (shown_contents c.args.contents.now)
    (subst (λ (m : Command). AreContents None (task m).inputs (shown_contents c.args.contents.now)) c.in-Walk.is c.requires)
    c.content-first.result.now c.content-first.ensures answer.Printed [] c.walk_lines.result c.printed-in-Walk.result c.printed-in-Walk.ensures
    (subst (λ (n : List ℕ). IfErr c.walk_lines.result (RefusesBy
    (RefusesGiven n (map string_bytes c.in-Walk.args.items) c.content-first.result.now))) c.deref-in-Walk.ensures
    (subst (λ (x : List (String Global)). IfErr c.walk_lines.result
    (RefusesBy (RefusesGiven c.deref-in-Walk.result.now (map string_bytes x) c.content-first.result.now))) c.deref-in-Walk-2.ensures.value
    c.walk_lines.ensures.refused)))

-- ---- Run

pub run_lines-requires : goal.run_lines-requires
run_lines-requires c = subst (λ (l : List ℕ). length l ≤ verilog_max) (sym c.content-first.ensures)
    (one_within (file_within (string_bytes c.in-Run.input) verilog_max) (shown_contents c.args.contents.now)
    (subst (λ (m : Command). AreContents None (task m).inputs (shown_contents c.args.contents.now)) c.in-Run.is c.requires))

pub returns-in-Run-clause-answers : goal.returns-in-Run-clause-answers
returns-in-Run-clause-answers c =
    subst (λ (m : Command). IfOk c.printed-in-Run.result (Answers (task m) (shown_contents c.args.contents.now))) (sym c.in-Run.is)
    (prints (file_within (string_bytes c.in-Run.input) verilog_max) (RefusesText (string_bytes c.in-Run.input) (map string_bytes c.in-Run.args.items))
    (GivesRun (map string_bytes c.in-Run.args.items) c.in-Run.limit) (λ text. Finishes text (map string_bytes c.in-Run.args.items) c.in-Run.limit)
    (shown_contents c.args.contents.now) (subst (λ (m : Command). AreContents None (task m).inputs (shown_contents c.args.contents.now))
    c.in-Run.is c.requires) c.content-first.result.now c.content-first.ensures c.run_lines.result c.printed-in-Run.result c.printed-in-Run.ensures
    (subst (λ (x : List (String Global)). IfOk c.run_lines.result
    (λ l. GivesRun (map string_bytes x) c.in-Run.limit c.content-first.result.now (printed l))) c.deref-in-Run-2.ensures.value c.run_lines.ensures.gives))

pub returns-in-Run-clause-traces : goal.returns-in-Run-clause-traces
returns-in-Run-clause-traces c =
    subst (λ (m : Command). IfOk c.printed-in-Run.result (λ a. traces_for a ≡ traces_in (shown_command m))) (sym c.in-Run.is)
    (traces_on answer.Printed c.run_lines.result c.printed-in-Run.result c.printed-in-Run.ensures no_traces (λ l. refl))

pub returns-in-Run-clause-shows : goal.returns-in-Run-clause-shows
returns-in-Run-clause-shows c = shows_none c.printed-in-Run.result c.args.command.now (shown_contents c.args.contents.now) (subst HasNoRun (sym c.in-Run.is) tt)

pub returns-in-Run-clause-refused : goal.returns-in-Run-clause-refused
returns-in-Run-clause-refused c =
    subst (λ (m : Command). IfErr c.printed-in-Run.result (Declines (task m) (shown_contents c.args.contents.now))) (sym c.in-Run.is)
    (declines (file_within (string_bytes c.in-Run.input) verilog_max) (RefusesText (string_bytes c.in-Run.input) (map string_bytes c.in-Run.args.items))
    (GivesRun (map string_bytes c.in-Run.args.items) c.in-Run.limit) (λ text. Finishes text (map string_bytes c.in-Run.args.items) c.in-Run.limit)
    (shown_contents c.args.contents.now) (subst (λ (m : Command). AreContents None (task m).inputs (shown_contents c.args.contents.now))
    c.in-Run.is c.requires) c.content-first.result.now c.content-first.ensures answer.Printed [] c.run_lines.result c.printed-in-Run.result
    c.printed-in-Run.ensures (subst (λ (n : List ℕ). IfErr c.run_lines.result
    (RefusesBy (RefusesText n (map string_bytes c.in-Run.args.items) c.content-first.result.now))) c.deref-in-Run.ensures
    (subst (λ (x : List (String Global)). IfErr c.run_lines.result
    (RefusesBy (RefusesText c.deref-in-Run.result.now (map string_bytes x) c.content-first.result.now))) c.deref-in-Run-2.ensures.value c.run_lines.ensures.refused)))

-- ---- Report

pub report_lines-requires : goal.report_lines-requires
report_lines-requires c = subst (λ (l : List ℕ). length l ≤ source_max) (sym c.content-first.ensures)
    (one_within (file_within (string_bytes c.in-Report.input) source_max) (shown_contents c.args.contents.now)
    (subst (λ (m : Command). AreContents None (task m).inputs (shown_contents c.args.contents.now)) c.in-Report.is c.requires))

pub returns-in-Report-clause-answers : goal.returns-in-Report-clause-answers
returns-in-Report-clause-answers c =
    subst (λ (m : Command). IfOk c.printed-in-Report.result (Answers (task m) (shown_contents c.args.contents.now))) (sym c.in-Report.is)
    (prints (file_within (string_bytes c.in-Report.input) source_max) (RefusesSourceOf (string_bytes c.in-Report.input)) (GivesReport) (IsAccepted)
    (shown_contents c.args.contents.now) (subst (λ (m : Command). AreContents None (task m).inputs (shown_contents c.args.contents.now))
    c.in-Report.is c.requires) c.content-first.result.now c.content-first.ensures c.report_lines.result c.printed-in-Report.result
    c.printed-in-Report.ensures c.report_lines.ensures.gives)

pub returns-in-Report-clause-traces : goal.returns-in-Report-clause-traces
returns-in-Report-clause-traces c =
    subst (λ (m : Command). IfOk c.printed-in-Report.result (λ a. traces_for a ≡ traces_in (shown_command m))) (sym c.in-Report.is)
    (traces_on answer.Printed c.report_lines.result c.printed-in-Report.result c.printed-in-Report.ensures no_traces (λ l. refl))

pub returns-in-Report-clause-shows : goal.returns-in-Report-clause-shows
returns-in-Report-clause-shows c = shows_none c.printed-in-Report.result c.args.command.now (shown_contents c.args.contents.now) (subst HasNoRun (sym c.in-Report.is) tt)

pub returns-in-Report-clause-refused : goal.returns-in-Report-clause-refused
returns-in-Report-clause-refused c =
    subst (λ (m : Command). IfErr c.printed-in-Report.result (Declines (task m) (shown_contents c.args.contents.now))) (sym c.in-Report.is)
    (declines (file_within (string_bytes c.in-Report.input) source_max) (RefusesSourceOf (string_bytes c.in-Report.input)) (GivesReport) (IsAccepted)
    (shown_contents c.args.contents.now) (subst (λ (m : Command). AreContents None (task m).inputs (shown_contents c.args.contents.now))
    c.in-Report.is c.requires) c.content-first.result.now c.content-first.ensures answer.Printed [] c.report_lines.result
    c.printed-in-Report.result c.printed-in-Report.ensures (subst
    (λ (n : List ℕ). IfErr c.report_lines.result (RefusesBy (RefusesSourceOf n c.content-first.result.now))) c.deref-in-Report.ensures
    c.report_lines.ensures.refused))

-- ---- Gen

pub returns-in-Gen-clause-answers : goal.returns-in-Gen-clause-answers
returns-in-Gen-clause-answers c =
    subst (λ (m : Command). IfOk c.printed-in-Gen.result (Answers (task m) (shown_contents c.args.contents.now))) (sym c.in-Gen.is)
    (given_on answer.Printed c.gen_lines.result c.printed-in-Gen.result c.printed-in-Gen.ensures
    (λ l. printed l ≡ only_prints true (made_source c.in-Gen.seed c.in-Gen.count.functions))
    (Answers (command_task (Gen c.in-Gen.seed c.in-Gen.count.functions)) (shown_contents c.args.contents.now))
    (λ l p. record { gives = λ g e. e ∙ p; outputs = refl; can = tt }) c.gen_lines.ensures.gives)

pub returns-in-Gen-clause-traces : goal.returns-in-Gen-clause-traces
returns-in-Gen-clause-traces c =
    subst (λ (m : Command). IfOk c.printed-in-Gen.result (λ a. traces_for a ≡ traces_in (shown_command m))) (sym c.in-Gen.is)
    (traces_on answer.Printed c.gen_lines.result c.printed-in-Gen.result c.printed-in-Gen.ensures no_traces (λ l. refl))

pub returns-in-Gen-clause-shows : goal.returns-in-Gen-clause-shows
returns-in-Gen-clause-shows c = shows_none c.printed-in-Gen.result c.args.command.now (shown_contents c.args.contents.now) (subst HasNoRun (sym c.in-Gen.is) tt)

pub returns-in-Gen-clause-refused : goal.returns-in-Gen-clause-refused
returns-in-Gen-clause-refused c =
    subst (λ (m : Command). IfErr c.printed-in-Gen.result (Declines (task m) (shown_contents c.args.contents.now))) (sym c.in-Gen.is)
    (refused_on answer.Printed c.gen_lines.result c.printed-in-Gen.result c.printed-in-Gen.ensures
    (Declines (command_task (Gen c.in-Gen.seed c.in-Gen.count.functions)) (shown_contents c.args.contents.now)) (RefusesBy (λ s line. ⊥)) (λ r h. h) c.gen_lines.ensures.refused)

-- ---- Bench

pub returns-in-Bench-clause-answers : goal.returns-in-Bench-clause-answers
returns-in-Bench-clause-answers c =
    subst (λ (m : Command). IfOk c.printed-in-Bench.result (Answers (task m) (shown_contents c.args.contents.now))) (sym c.in-Bench.is)
    (given_on answer.Printed c.bench_lines.result c.printed-in-Bench.result c.printed-in-Bench.ensures
    (λ l. GivesMeasure (made_args c.in-Bench.seed c.in-Bench.count.functions) c.in-Bench.limit
    (made_source c.in-Bench.seed c.in-Bench.count.functions) (printed l))
    (Answers (command_task (Bench c.in-Bench.seed c.in-Bench.count.functions c.in-Bench.limit)) (shown_contents c.args.contents.now))
    (λ l p. record {
      gives = λ g e. subst (GivesMeasure (made_args c.in-Bench.seed c.in-Bench.count.functions) c.in-Bench.limit
          (made_source c.in-Bench.seed c.in-Bench.count.functions)) (sym e) p;
      outputs = refl;
      can = tt;
    }) c.bench_lines.ensures.gives)

pub returns-in-Bench-clause-traces : goal.returns-in-Bench-clause-traces
returns-in-Bench-clause-traces c =
    subst (λ (m : Command). IfOk c.printed-in-Bench.result (λ a. traces_for a ≡ traces_in (shown_command m))) (sym c.in-Bench.is)
    (traces_on answer.Printed c.bench_lines.result c.printed-in-Bench.result c.printed-in-Bench.ensures no_traces (λ l. refl))

pub returns-in-Bench-clause-shows : goal.returns-in-Bench-clause-shows
returns-in-Bench-clause-shows c = shows_none c.printed-in-Bench.result c.args.command.now (shown_contents c.args.contents.now) (subst HasNoRun (sym c.in-Bench.is) tt)

pub returns-in-Bench-clause-refused : goal.returns-in-Bench-clause-refused
returns-in-Bench-clause-refused c =
    subst (λ (m : Command). IfErr c.printed-in-Bench.result (Declines (task m) (shown_contents c.args.contents.now))) (sym c.in-Bench.is)
    (refused_on answer.Printed c.bench_lines.result c.printed-in-Bench.result c.printed-in-Bench.ensures
    (Declines (command_task (Bench c.in-Bench.seed c.in-Bench.count.functions c.in-Bench.limit)) (shown_contents c.args.contents.now))
    (RefusesBy (RefusesGiven (codes "bench") (made_args c.in-Bench.seed c.in-Bench.count.functions)
    (made_source c.in-Bench.seed c.in-Bench.count.functions))) (λ r h. h) c.bench_lines.ensures.refused)

-- ---- CopySite

pub copy_text-requires : goal.copy_text-requires
copy_text-requires c = subst (λ (l : List ℕ). length l ≤ source_max) (sym c.content-first.ensures)
    (one_within (file_within (string_bytes c.in-CopySite.input) source_max) (shown_contents c.args.contents.now)
    (subst (λ (m : Command). AreContents None (task m).inputs (shown_contents c.args.contents.now)) c.in-CopySite.is c.requires))

pub returns-in-CopySite-clause-answers : goal.returns-in-CopySite-clause-answers
returns-in-CopySite-clause-answers c =
    subst (λ (m : Command). IfOk c.written-in-CopySite.result (Answers (task m) (shown_contents c.args.contents.now))) (sym c.in-CopySite.is)
    (writes (file_within (string_bytes c.in-CopySite.input) source_max) (RefusesReshaping (copies c.in-CopySite.site) (string_bytes c.in-CopySite.input)
    c.in-CopySite.site) (GivesReshaped (copies c.in-CopySite.site)) (IsReshapable (copies c.in-CopySite.site))
    (shown_contents c.args.contents.now) (subst (λ (m : Command). AreContents None (task m).inputs (shown_contents c.args.contents.now))
    c.in-CopySite.is c.requires) c.content-first.result.now c.content-first.ensures c.deref-in-CopySite.result (string_bytes c.in-CopySite.output)
    c.deref-in-CopySite.ensures c.copy_text.result c.written-in-CopySite.result c.written-in-CopySite.ensures c.copy_text.ensures.gives)

pub returns-in-CopySite-clause-traces : goal.returns-in-CopySite-clause-traces
returns-in-CopySite-clause-traces c =
    subst (λ (m : Command). IfOk c.written-in-CopySite.result (λ a. traces_for a ≡ traces_in (shown_command m))) (sym c.in-CopySite.is)
    (traces_on (answer.File c.deref-in-CopySite.result) c.copy_text.result c.written-in-CopySite.result c.written-in-CopySite.ensures no_traces (λ l. refl))

pub returns-in-CopySite-clause-shows : goal.returns-in-CopySite-clause-shows
returns-in-CopySite-clause-shows c = shows_none c.written-in-CopySite.result c.args.command.now (shown_contents c.args.contents.now) (subst HasNoRun (sym c.in-CopySite.is) tt)

pub returns-in-CopySite-clause-refused : goal.returns-in-CopySite-clause-refused
returns-in-CopySite-clause-refused c =
    subst (λ (m : Command). IfErr c.written-in-CopySite.result (Declines (task m) (shown_contents c.args.contents.now))) (sym c.in-CopySite.is)
    (declines (file_within (string_bytes c.in-CopySite.input) source_max)
    (RefusesReshaping (copies c.in-CopySite.site) (string_bytes c.in-CopySite.input) c.in-CopySite.site)
    (GivesReshaped (copies c.in-CopySite.site)) (IsReshapable (copies c.in-CopySite.site)) (shown_contents c.args.contents.now)
    (subst (λ (m : Command). AreContents None (task m).inputs (shown_contents c.args.contents.now)) c.in-CopySite.is c.requires)
    c.content-first.result.now c.content-first.ensures (answer.File c.deref-in-CopySite.result) (string_bytes c.in-CopySite.output ∷ [])
    c.copy_text.result c.written-in-CopySite.result c.written-in-CopySite.ensures
    (subst (λ (n : List ℕ). IfErr c.copy_text.result (RefusesBy
    (RefusesReshaping (copies c.in-CopySite.site) n c.in-CopySite.site c.content-first.result.now))) c.deref-in-CopySite-2.ensures c.copy_text.ensures.refused))

-- ---- UnfoldSite

pub unfold_text-requires : goal.unfold_text-requires
unfold_text-requires c = subst (λ (l : List ℕ). length l ≤ source_max) (sym c.content-first.ensures)
    (one_within (file_within (string_bytes c.in-UnfoldSite.input) source_max) (shown_contents c.args.contents.now)
    (subst (λ (m : Command). AreContents None (task m).inputs (shown_contents c.args.contents.now)) c.in-UnfoldSite.is c.requires))

pub returns-in-UnfoldSite-clause-answers : goal.returns-in-UnfoldSite-clause-answers
returns-in-UnfoldSite-clause-answers c =
    subst (λ (m : Command). IfOk c.written-in-UnfoldSite.result (Answers (task m) (shown_contents c.args.contents.now))) (sym c.in-UnfoldSite.is)
    (writes (file_within (string_bytes c.in-UnfoldSite.input) source_max)
    (RefusesReshaping (unfolds c.in-UnfoldSite.site) (string_bytes c.in-UnfoldSite.input) c.in-UnfoldSite.site)
    (GivesReshaped (unfolds c.in-UnfoldSite.site)) (IsReshapable (unfolds c.in-UnfoldSite.site)) (shown_contents c.args.contents.now)
    (subst (λ (m : Command). AreContents None (task m).inputs (shown_contents c.args.contents.now)) c.in-UnfoldSite.is c.requires)
    c.content-first.result.now c.content-first.ensures c.deref-in-UnfoldSite.result (string_bytes c.in-UnfoldSite.output)
    c.deref-in-UnfoldSite.ensures c.unfold_text.result c.written-in-UnfoldSite.result c.written-in-UnfoldSite.ensures c.unfold_text.ensures.gives)

pub returns-in-UnfoldSite-clause-traces : goal.returns-in-UnfoldSite-clause-traces
returns-in-UnfoldSite-clause-traces c =
    subst (λ (m : Command). IfOk c.written-in-UnfoldSite.result (λ a. traces_for a ≡ traces_in (shown_command m))) (sym c.in-UnfoldSite.is)
    (traces_on (answer.File c.deref-in-UnfoldSite.result) c.unfold_text.result c.written-in-UnfoldSite.result c.written-in-UnfoldSite.ensures no_traces (λ l. refl))

pub returns-in-UnfoldSite-clause-shows : goal.returns-in-UnfoldSite-clause-shows
returns-in-UnfoldSite-clause-shows c = shows_none c.written-in-UnfoldSite.result c.args.command.now (shown_contents c.args.contents.now) (subst HasNoRun (sym c.in-UnfoldSite.is) tt)

pub returns-in-UnfoldSite-clause-refused : goal.returns-in-UnfoldSite-clause-refused
returns-in-UnfoldSite-clause-refused c =
    subst (λ (m : Command). IfErr c.written-in-UnfoldSite.result (Declines (task m) (shown_contents c.args.contents.now))) (sym c.in-UnfoldSite.is)
    (declines (file_within (string_bytes c.in-UnfoldSite.input) source_max)
    (RefusesReshaping (unfolds c.in-UnfoldSite.site) (string_bytes c.in-UnfoldSite.input) c.in-UnfoldSite.site)
    (GivesReshaped (unfolds c.in-UnfoldSite.site)) (IsReshapable (unfolds c.in-UnfoldSite.site)) (shown_contents c.args.contents.now)
    (subst (λ (m : Command). AreContents None (task m).inputs (shown_contents c.args.contents.now)) c.in-UnfoldSite.is c.requires)
    c.content-first.result.now c.content-first.ensures (answer.File c.deref-in-UnfoldSite.result) (string_bytes c.in-UnfoldSite.output ∷ [])
    c.unfold_text.result c.written-in-UnfoldSite.result c.written-in-UnfoldSite.ensures
    (subst (λ (n : List ℕ). IfErr c.unfold_text.result (RefusesBy
    (RefusesReshaping (unfolds c.in-UnfoldSite.site) n c.in-UnfoldSite.site c.content-first.result.now))) c.deref-in-UnfoldSite-2.ensures
    c.unfold_text.ensures.refused))

-- ---- Session

pub ready_session-requires-clause-source : goal.ready_session-requires-clause-source
ready_session-requires-clause-source c = subst (λ (l : List ℕ). length l ≤ source_max) (sym c.content-first.ensures)
    (two_within (file_within (string_bytes c.in-Session.input) source_max) (file_within (string_bytes c.in-Session.script) script_max) (shown_contents c.args.contents.now)
    (subst (λ (m : Command). AreContents None (task m).inputs (shown_contents c.args.contents.now)) c.in-Session.is c.requires)).0

pub ready_session-requires-clause-script : goal.ready_session-requires-clause-script
ready_session-requires-clause-script c = subst (λ (l : List ℕ). length l ≤ script_max) (sym c.content-second.ensures)
    (two_within (file_within (string_bytes c.in-Session.input) source_max) (file_within (string_bytes c.in-Session.script) script_max) (shown_contents c.args.contents.now)
    (subst (λ (m : Command). AreContents None (task m).inputs (shown_contents c.args.contents.now)) c.in-Session.is c.requires)).1

pub returns-in-Session-clause-answers : goal.returns-in-Session-clause-answers
returns-in-Session-clause-answers c =
    subst (λ (m : Command). IfOk c.replied.result (Answers (task m) (shown_contents c.args.contents.now))) (sym c.in-Session.is)
    (both_answers (file_within (string_bytes c.in-Session.input) source_max) (file_within (string_bytes c.in-Session.script) script_max)
    (RefusesSession (string_bytes c.in-Session.input)) (GivesReplies c.in-Session.limit)
    (λ source text. EvaluatesEach source text c.in-Session.limit) (shown_contents c.args.contents.now)
    (subst (λ (m : Command). AreContents None (task m).inputs (shown_contents c.args.contents.now)) c.in-Session.is c.requires)
    c.content-first.result.now c.content-second.result.now c.content-first.ensures c.content-second.ensures
    (λ (o : ReadySession). answer.Replies o c.in-Session.limit) c.ready_session.result c.replied.result c.replied.ensures (λ o. refl)
    (IsReadySession c.content-first.result.now c.content-second.result.now)
    (λ o is. (ready c.content-first.result.now c.content-second.result.now o is, calls_fit c.content-first.result.now c.content-second.result.now o is))
    (λ o is g h. gives_replies c.content-first.result.now c.content-second.result.now o is c.session_law.ensures.serves c.session_law.ensures.reset c.in-Session.limit g h)
    c.ready_session.ensures.opened)

pub returns-in-Session-clause-traces : goal.returns-in-Session-clause-traces
returns-in-Session-clause-traces c =
    subst (λ (m : Command). IfOk c.replied.result (λ a. traces_for a ≡ traces_in (shown_command m))) (sym c.in-Session.is)
    (traces_on (λ (o : ReadySession). answer.Replies o c.in-Session.limit) c.ready_session.result c.replied.result c.replied.ensures no_traces (λ o. refl))

pub returns-in-Session-clause-shows : goal.returns-in-Session-clause-shows
returns-in-Session-clause-shows c = shows_none c.replied.result c.args.command.now (shown_contents c.args.contents.now) (subst HasNoRun (sym c.in-Session.is) tt)

pub returns-in-Session-clause-refused : goal.returns-in-Session-clause-refused
returns-in-Session-clause-refused c =
    subst (λ (m : Command). IfErr c.replied.result (Declines (task m) (shown_contents c.args.contents.now))) (sym c.in-Session.is)
    (both_declines (file_within (string_bytes c.in-Session.input) source_max) (file_within (string_bytes c.in-Session.script) script_max)
    (RefusesSession (string_bytes c.in-Session.input)) (GivesReplies c.in-Session.limit)
    (λ source text. EvaluatesEach source text c.in-Session.limit) (shown_contents c.args.contents.now)
    (subst (λ (m : Command). AreContents None (task m).inputs (shown_contents c.args.contents.now)) c.in-Session.is c.requires)
    c.content-first.result.now c.content-second.result.now c.content-first.ensures c.content-second.ensures
    (λ (o : ReadySession). answer.Replies o c.in-Session.limit) c.ready_session.result c.replied.result c.replied.ensures
    (subst (λ (n : List ℕ). IfErr c.ready_session.result (RefusesBy
    (RefusesSession n c.content-first.result.now c.content-second.result.now))) c.deref-in-Session.ensures c.ready_session.ensures.refused))

-- ---- Aig

pub aig_text-requires : goal.aig_text-requires
aig_text-requires c = subst (λ (l : List ℕ). length l ≤ verilog_max) (sym c.content-first.ensures)
    (one_within (file_within (string_bytes c.in-Aig.input) verilog_max) (shown_contents c.args.contents.now)
    (subst (λ (m : Command). AreContents None (task m).inputs (shown_contents c.args.contents.now)) c.in-Aig.is c.requires))

pub returns-in-Aig-clause-answers : goal.returns-in-Aig-clause-answers
returns-in-Aig-clause-answers c =
    subst (λ (m : Command). IfOk c.written-in-Aig.result (Answers (task m) (shown_contents c.args.contents.now))) (sym c.in-Aig.is)
    (writes (file_within (string_bytes c.in-Aig.input) verilog_max) (RefusesBitsOf (string_bytes c.in-Aig.input)) (GivesBits) (HasBits)
    (shown_contents c.args.contents.now) (subst (λ (m : Command). AreContents None (task m).inputs (shown_contents c.args.contents.now))
    c.in-Aig.is c.requires) c.content-first.result.now c.content-first.ensures c.deref-in-Aig.result (string_bytes c.in-Aig.output)
    c.deref-in-Aig.ensures c.aig_text.result c.written-in-Aig.result c.written-in-Aig.ensures c.aig_text.ensures.gives)

pub returns-in-Aig-clause-traces : goal.returns-in-Aig-clause-traces
returns-in-Aig-clause-traces c =
    subst (λ (m : Command). IfOk c.written-in-Aig.result (λ a. traces_for a ≡ traces_in (shown_command m))) (sym c.in-Aig.is)
    (traces_on (answer.File c.deref-in-Aig.result) c.aig_text.result c.written-in-Aig.result c.written-in-Aig.ensures no_traces (λ l. refl))

pub returns-in-Aig-clause-shows : goal.returns-in-Aig-clause-shows
returns-in-Aig-clause-shows c = shows_none c.written-in-Aig.result c.args.command.now (shown_contents c.args.contents.now) (subst HasNoRun (sym c.in-Aig.is) tt)

pub returns-in-Aig-clause-refused : goal.returns-in-Aig-clause-refused
returns-in-Aig-clause-refused c =
    subst (λ (m : Command). IfErr c.written-in-Aig.result (Declines (task m) (shown_contents c.args.contents.now))) (sym c.in-Aig.is)
    (declines (file_within (string_bytes c.in-Aig.input) verilog_max) (RefusesBitsOf (string_bytes c.in-Aig.input)) (GivesBits) (HasBits)
    (shown_contents c.args.contents.now) (subst (λ (m : Command). AreContents None (task m).inputs (shown_contents c.args.contents.now))
    c.in-Aig.is c.requires) c.content-first.result.now c.content-first.ensures (answer.File c.deref-in-Aig.result)
    (string_bytes c.in-Aig.output ∷ []) c.aig_text.result c.written-in-Aig.result c.written-in-Aig.ensures
    (subst (λ (n : List ℕ). IfErr c.aig_text.result (RefusesBy (RefusesBitsOf n c.content-first.result.now))) c.deref-in-Aig-2.ensures c.aig_text.ensures.refused))

-- ---- Aigstat

pub aigstat_lines-requires : goal.aigstat_lines-requires
aigstat_lines-requires c = subst (λ (l : List ℕ). length l ≤ aig_max) (sym c.content-first.ensures)
    (one_within (file_within (string_bytes c.in-Aigstat.input) aig_max) (shown_contents c.args.contents.now)
    (subst (λ (m : Command). AreContents None (task m).inputs (shown_contents c.args.contents.now)) c.in-Aigstat.is c.requires))

pub returns-in-Aigstat-clause-answers : goal.returns-in-Aigstat-clause-answers
returns-in-Aigstat-clause-answers c =
    subst (λ (m : Command). IfOk c.printed-in-Aigstat.result (Answers (task m) (shown_contents c.args.contents.now))) (sym c.in-Aigstat.is)
    (prints (file_within (string_bytes c.in-Aigstat.input) aig_max) (RefusesAig (string_bytes c.in-Aigstat.input)) (GivesCounts) (IsAig)
    (shown_contents c.args.contents.now) (subst (λ (m : Command). AreContents None (task m).inputs (shown_contents c.args.contents.now))
    c.in-Aigstat.is c.requires) c.content-first.result.now c.content-first.ensures c.aigstat_lines.result c.printed-in-Aigstat.result
    c.printed-in-Aigstat.ensures c.aigstat_lines.ensures.gives)

pub returns-in-Aigstat-clause-traces : goal.returns-in-Aigstat-clause-traces
returns-in-Aigstat-clause-traces c =
    subst (λ (m : Command). IfOk c.printed-in-Aigstat.result (λ a. traces_for a ≡ traces_in (shown_command m))) (sym c.in-Aigstat.is)
    (traces_on answer.Printed c.aigstat_lines.result c.printed-in-Aigstat.result c.printed-in-Aigstat.ensures no_traces (λ l. refl))

pub returns-in-Aigstat-clause-shows : goal.returns-in-Aigstat-clause-shows
returns-in-Aigstat-clause-shows c = shows_none c.printed-in-Aigstat.result c.args.command.now (shown_contents c.args.contents.now) (subst HasNoRun (sym c.in-Aigstat.is) tt)

pub returns-in-Aigstat-clause-refused : goal.returns-in-Aigstat-clause-refused
returns-in-Aigstat-clause-refused c =
    subst (λ (m : Command). IfErr c.printed-in-Aigstat.result (Declines (task m) (shown_contents c.args.contents.now))) (sym c.in-Aigstat.is)
    (declines (file_within (string_bytes c.in-Aigstat.input) aig_max) (RefusesAig (string_bytes c.in-Aigstat.input)) (GivesCounts) (IsAig)
    (shown_contents c.args.contents.now) (subst (λ (m : Command). AreContents None (task m).inputs (shown_contents c.args.contents.now))
    c.in-Aigstat.is c.requires) c.content-first.result.now c.content-first.ensures answer.Printed [] c.aigstat_lines.result
    c.printed-in-Aigstat.result c.printed-in-Aigstat.ensures
    (subst (λ (n : List ℕ). IfErr c.aigstat_lines.result (RefusesBy (RefusesAig n c.content-first.result.now))) c.deref-in-Aigstat.ensures
    c.aigstat_lines.ensures.refused))
