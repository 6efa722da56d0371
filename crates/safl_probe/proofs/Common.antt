-- What several proofs of this crate cite from elsewhere.
pub use Rattle.std.proofs.Common.{List, ap, arith, drop, get_or, map, refl, sym, ℕ, ◌++◌, ◌<◌, ◌∙◌, ◌≡◌}
pub use Rattle.std.proofs.Math.Dec.{eqb-suc-zero}
pub use Rattle.std.proofs.Math.Seq.{drop-cons}
pub use Rattle.std.proofs.lemmas.Bool.{cases_eq, cases_lt, false≢true}
pub use Rattle.std.proofs.lemmas.Int.Digits.{number_digits_of}
pub use Rattle.std.proofs.lemmas.List.{append-nil, get_or-map, length-map, with_items_is}
pub use Rattle.std.proofs.lemmas.Result.{err_from_is_err_and, on_ok_weaker}
pub use Rattle.std.proofs.lemmas.Slice.Eq.{bytes_eq-Decides}
pub use Rattle.std.specs.Option.{option_or}
pub use Rattle.safl_io.proofs.Keeping.{reads_same, reads_then}
pub use Rattle.safl_io.proofs.Telling.{TellsOn-then, rose_later}
pub use Rattle.safl_io.specs.Shelf.{Files, SameReads, ShelfState, file_of}
pub use Rattle.safl_io.specs.Told.{TellsOn}
pub use Rattle.safl_net.specs.Netlist.{Netlist, Signal}
pub use Rattle.safl_net.specs.Rules.{IsNetlist}
pub use Rattle.safl_net.specs.Valuations.{Valuation}
pub use Rattle.safl_probe.specs.Asked.{AreApart, Asked, IsAsked, asked, probe_at}
pub use Rattle.safl_probe.specs.Calls.{after_frames, cycle_texts}
pub use Rattle.safl_probe.specs.Entries.{nameless, numbers, spot_of, watched_all, watched_from, watched_in}
pub use Rattle.safl_probe.specs.Growth.{AllGrow, Longer, LongerPart, Made, OldOrPart, Relation}
pub use Rattle.safl_probe.specs.Probing.{ProbeState, after_frame, begun}
pub use Rattle.safl_probe.specs.Rooms.{HasWidths}
pub use Rattle.safl_probe.specs.Rounds.{Shown}
pub use Rattle.safl_probe.specs.Texts.{Text, toggled, trace, variable_texts}
pub use Rattle.safl_probe.specs.Watching.{Watched, output_watched, seen}
pub use Rattle.safl_probe.specs.declared.drive_err.DriveErr.{DriveErr}
pub use Rattle.safl_probe.specs.declared.entry.Entry.{Entry}
pub use Rattle.safl_probe.specs.declared.entry.Spot.{Spot}
pub use Rattle.safl_probe.specs.declared.kind.TraceKind.{TraceKind}
pub use Rattle.safl_probe.specs.declared.moment.Moment.{Moment}
pub use Rattle.safl_probe.specs.declared.moment.Moment.TheVariants.{Beginning, End, Frame}
pub use Rattle.safl_word.proofs.Lists.{drop_suc, get_some}
pub use Rattle.safl_word.proofs.Naturals.{lower_or_last}
pub use Rattle.safl_word.proofs.Options.{on_err_always}
pub use Rattle.safl_word.specs.Words.{Word}
