-- What several proofs of this crate cite from elsewhere.
pub use Rattle.std.proofs.Common.{List, Option, ap, inr, length, map, refl, string_bytes, subst, sym, ℕ, ◌∙◌, ◌≡◌, ◌≤◌}
pub use Rattle.std.proofs.lemmas.Bool.{false≢true}
pub use Rattle.std.proofs.lemmas.Option.{slice_get_within}
pub use Rattle.std.proofs.lemmas.Result.{IfErr-weaker, err_from_is_err_and}
pub use Rattle.std.proofs.lemmas.Slice.Eq.{bytes_eq-Decides}
pub use Rattle.std.specs.Borrow.{Bor}
pub use Rattle.std.specs.Option.{option_or}
pub use Rattle.std.specs.Prelude.{IfErr, IfOk, IsSomeAnd, MatchResult}
pub use Rattle.std.specs.declared.vec.Vec.{Vec}
pub use Rattle.safl_aig.specs.BitLevel.{IsRefused}
pub use Rattle.safl_aiger.specs.ReadLaws.{NoFault}
pub use Rattle.safl_command.specs.Commands.{shown_command}
pub use Rattle.safl_compiler.specs.Circuits.{IsCircuitOf}
pub use Rattle.safl_compiler.specs.Laws.{OneProgram}
pub use Rattle.safl_compiler.specs.Sources.{IsSourceOf}
pub use Rattle.safl_core.specs.declared.walking.Walked.{Walked}
pub use Rattle.safl_io.specs.Shelf.{Files, ShelfState, file_of}
pub use Rattle.safl_io.specs.Sink.{Sends, SendsPart, SinkState}
pub use Rattle.safl_io.specs.Told.{TellsOn}
pub use Rattle.safl_net.specs.Arguments.{argument_widths}
pub use Rattle.safl_net.specs.Making.{name_at, numbers}
pub use Rattle.safl_net.specs.Netlist.{Netlist}
pub use Rattle.safl_net.specs.Rules.{IsNetlist}
pub use Rattle.safl_net.specs.Valuations.{IsAcyclic, Valuation, reset_state}
pub use Rattle.safl_net.specs.Whole.{IsWhole}
pub use Rattle.safl_net.specs.Written.{written}
pub use Rattle.safl_net.specs.declared.cell.Sig.{Sig}
pub use Rattle.safl_probe.specs.Asked.{AreApart, Asked, IsAsked, asked, probe_at}
pub use Rattle.safl_probe.specs.Probing.{ProbeState}
pub use Rattle.safl_probe.specs.Runs.{IsRunOf, trace_at, until_done}
pub use Rattle.safl_probe.specs.Stopping.{SameProbes, WriteFailed}
pub use Rattle.safl_probe.specs.Watching.{kind_of}
pub use Rattle.safl_probe.specs.declared.kind.TraceKind.{TraceKind}
pub use Rattle.safl_run.specs.Calls.{IsOutcome}
pub use Rattle.safl_session.specs.Sessions.{Opened}
pub use Rattle.safl_sim.specs.Places.{resets}
pub use Rattle.safl_sim.specs.Simulation.{Simulation}
pub use Rattle.safl_sim.specs.declared.done.Done.{Done}
pub use Rattle.safl_task.specs.Endings.{may_give, outside, starved}
pub use Rattle.safl_task.specs.Inputs.{file_within}
pub use Rattle.safl_task.specs.Tasks.{Given, end_of, files_of, only_writes}
pub use Rattle.safl_task.specs.declared.status.Status.{Status}
pub use Rattle.safl_term.specs.Checked.{CheckedProgram}
pub use Rattle.safl_term.specs.Names.{Names}
pub use Rattle.safl_term.specs.Program.{Program}
pub use Rattle.safl_term.specs.WellFormed.{AreWordsOf}
pub use Rattle.safl_tool.specs.Arguments.{HaveFault, RefusesArguments}
pub use Rattle.safl_tool.specs.Asking.{is_any_given, traces_given}
pub use Rattle.safl_tool.specs.Calling.{EvaluatesEach, GivesReplies}
pub use Rattle.safl_tool.specs.CommandTasks.{RefusesReshaping, command_task, traces_in}
pub use Rattle.safl_tool.specs.Lines.{usage_line}
pub use Rattle.safl_tool.specs.Readiness.{IsReadyOf}
pub use Rattle.safl_tool.specs.Reading.{content_at}
pub use Rattle.safl_tool.specs.ReadySession.{IsReadySession}
pub use Rattle.safl_tool.specs.Refusals.{Declines, HasLine, IsWriting, RefusesBy, WatchingFails}
pub use Rattle.safl_tool.specs.Reporting.{made_args, made_source}
pub use Rattle.safl_tool.specs.Reshaping.{GivesReshaped, TellsLong, copies, unfolds}
pub use Rattle.safl_tool.specs.Running.{AreKnown, GivesOutcome}
pub use Rattle.safl_tool.specs.Sources.{IsAccepted, IsCompiled}
pub use Rattle.safl_tool.specs.Tracing.{AreAskedFor}
pub use Rattle.safl_tool.specs.Walking.{WalksFrom}
pub use Rattle.safl_tool.specs.Watched.{Attended}
pub use Rattle.safl_tool.specs.Worlds.{world}
pub use Rattle.safl_tool.specs.declared.answer.Answer.{Answer}
pub use Rattle.safl_tool.specs.declared.answer.Lines.{Lines}
pub use Rattle.safl_tool.specs.declared.ready.Ready.{Ready}
pub use Rattle.safl_tool.specs.declared.refusal.Refusal.{Refusal}
pub use Rattle.safl_tool.specs.declared.session.ReadySession.{ReadySession}
pub use Rattle.safl_tree.specs.Shown.{shown_program}
pub use Rattle.safl_typing.specs.Forms.{shown_form}
pub use Rattle.safl_word.proofs.Options.{on_ok_always}
pub use Rattle.safl_word.specs.Limits.{source_max}
pub use Rattle.safl_word.specs.Words.{AreWords, Word, as_word}
