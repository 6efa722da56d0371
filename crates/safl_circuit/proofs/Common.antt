-- What several proofs of this crate cite from elsewhere.
pub use Rattle.std.proofs.Math.Bool.{or-false, or-true}
pub use Rattle.std.proofs.Math.Path.{fun_ext}
pub use Rattle.std.proofs.lemmas.Bool.{cases_eq, false≢true}
pub use Rattle.std.proofs.lemmas.Option.{same_Some}
pub use Rattle.std.proofs.lemmas.Slice.Eq.{bytes_eq-Decides}
pub use Rattle.std.specs.List.{All, flat_map}
pub use Rattle.std.specs.List.Sorted.{IsPermutation}
pub use Rattle.std.specs.Prelude.{codes, unwrap_or}
pub use Rattle.safl_calls.proofs.Apart.{idle_delivers, idle_runs, runs_idle}
pub use Rattle.safl_calls.proofs.Basics.{first_cong, some_none}
pub use Rattle.safl_calls.proofs.FromWellFormed.{numbered}
pub use Rattle.safl_calls.proofs.Invariant.{Inv, inv_after}
pub use Rattle.safl_calls.proofs.Numbered.{Numbered}
pub use Rattle.safl_calls.specs.Interference.{OneInUse, ShownWordsServe}
pub use Rattle.safl_calls.specs.Span.{main_span}
pub use Rattle.safl_circuit.specs.Correct.{latest}
pub use Rattle.safl_circuit.specs.Equations.{Registers, many, ret}
pub use Rattle.safl_circuit.specs.Scheme.{Scheme, go_up}
pub use Rattle.safl_circuit.specs.Steps.{is_delivering, is_returned, is_running, was_sent}
pub use Rattle.safl_net.specs.Names.{is_temp}
pub use Rattle.safl_net.specs.Netlist.{Netlist}
pub use Rattle.safl_sites.specs.Conflicts.{IsSequential}
pub use Rattle.safl_sites.specs.Plan.{Choice}
pub use Rattle.safl_term.proofs.Apart.{loop_not_yet, ready_not_yet, sent_unsent}
pub use Rattle.safl_term.proofs.Values.{are_widths}
pub use Rattle.safl_term.specs.Fuel.{Gave, apply}
pub use Rattle.safl_term.specs.Meaning.{Main, main_calls}
pub use Rattle.safl_term.specs.Names.{Names}
pub use Rattle.safl_term.specs.Program.{Program, unit_for}
pub use Rattle.safl_term.specs.Readiness.{LoopTo, Ready, Returned, Sent, Stage, Unsent, or_else}
pub use Rattle.safl_term.specs.Standing.{Stands}
pub use Rattle.safl_term.specs.WellFormed.{AreWordsOf, IsWellFormed}
pub use Rattle.safl_word.proofs.Booleans.{cond_cong, cond_same}
pub use Rattle.safl_word.proofs.Options.{is_there, none_of}
pub use Rattle.safl_word.specs.Words.{Word, as_word, no_word}
