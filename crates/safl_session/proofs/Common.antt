-- What several proofs of this crate cite from elsewhere.
pub use Rattle.std.proofs.lemmas.List.Elements.{All-head, All-tail}
pub use Rattle.std.proofs.lemmas.Option.{slice_get_within}
pub use Rattle.std.specs.Prelude.{All}
pub use Rattle.safl_circuit.specs.Scheme.{Scheme}
pub use Rattle.safl_circuit.specs.Steps.{Quiet}
pub use Rattle.safl_io.specs.Sink.{Sends, SendsPart}
pub use Rattle.safl_io.specs.Told.{TellsOn}
pub use Rattle.safl_net.specs.Laws.{FitWidths}
pub use Rattle.safl_net.specs.Netlist.{Netlist}
pub use Rattle.safl_net.specs.Rules.{IsNetlist}
pub use Rattle.safl_run.specs.Calls.{IsSilent, Replies}
pub use Rattle.safl_session.specs.Replies.{AllReply, AreReplies}
pub use Rattle.safl_sim.proofs.Names.{place_at}
pub use Rattle.safl_sites.specs.Plan.{Choice}
pub use Rattle.safl_term.specs.Names.{Names}
pub use Rattle.safl_term.specs.Program.{Program}
pub use Rattle.safl_word.proofs.Lists.{get_in_front, get_seam}
pub use Rattle.safl_word.proofs.Naturals.{lower_same_higher}
pub use Rattle.safl_word.specs.Words.{AreWords, Word}
