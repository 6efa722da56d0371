-- What several proofs of this crate cite from elsewhere.
pub use Rattle.std.proofs.Common.{List, Option, Some, ap, arith, get_or, inl, inr, is_some, length, refl, rules, subst, sym, ℕ, ⊎_elim}
pub use Rattle.std.proofs.Common.{◌&&◌, ◌+◌, ◌<◌, ◌∙◌, ◌≡◌, ◌≤◌}
pub use Rattle.std.proofs.Math.Path.{fun_ext}
pub use Rattle.std.proofs.lemmas.Bool.{cases_eq, cases_lt, eq-eqb, eqb-true, false≢true, ne_eqb, true≢false}
pub use Rattle.std.proofs.lemmas.List.{get_or-set_other, get_or-set_same, get_or_read, length_push}
pub use Rattle.std.proofs.lemmas.Option.{none-some, same_Some}
pub use Rattle.std.proofs.lemmas.Slice.Eq.{bytes_eq-Decides}
pub use Rattle.std.specs.Int.{from_bool}
pub use Rattle.std.specs.Prelude.{IsSome, IsTrue, not, slice_get}
pub use Rattle.safl_calls.proofs.Basics.{put_at, put_off, serves}
pub use Rattle.safl_calls.proofs.FromWellFormed.{numbered}
pub use Rattle.safl_calls.proofs.Invariant.{Inv, found}
pub use Rattle.safl_calls.proofs.Numbered.{Numbered}
pub use Rattle.safl_calls.specs.Machine.{Finish, LoopInto, Return, asked}
pub use Rattle.safl_core.specs.Called.{AreCalled}
pub use Rattle.safl_core.specs.Knowing.{HasRoom, IsKnown}
pub use Rattle.safl_core.specs.Listing.{busy, listed}
pub use Rattle.safl_core.specs.Marking.{Nothing, Relists}
pub use Rattle.safl_core.specs.Modes.{idle_mode, mode_of, state_of, unit_at}
pub use Rattle.safl_core.specs.Outcomes.{GoesOn, IsBounded, IsOver, IsValue}
pub use Rattle.safl_core.specs.Picking.{IsPicked}
pub use Rattle.safl_core.specs.Shown.{CanFire, IsKept, Shown, event_of, state}
pub use Rattle.safl_core.specs.Spans.{IsSpan}
pub use Rattle.safl_core.specs.States.{calls_of}
pub use Rattle.safl_core.specs.Testing.{can, delivered, delivers_to, is_idle, is_sent, runs, wanted_at}
pub use Rattle.safl_core.specs.declared.spans.Span.{Span}
pub use Rattle.safl_evaluate.proofs.Refilled.{refilled}
pub use Rattle.safl_evaluate.proofs.RunsByParts.{widths_len}
pub use Rattle.safl_evaluate.specs.Answers.{args_given, is_ready, loops_to}
pub use Rattle.safl_evaluate.specs.Laying.{IsPlan, body_at}
pub use Rattle.safl_evaluate.specs.Stages.{back_at, stage_at, stage_of}
pub use Rattle.safl_evaluate.specs.declared.kept.Kept.{Kept}
pub use Rattle.safl_term.proofs.Apart.{not_loop}
pub use Rattle.safl_term.specs.Checked.{CheckedProgram, IsChecked}
pub use Rattle.safl_term.specs.Program.{Program, unit_for}
pub use Rattle.safl_term.specs.Readiness.{Answer, NotYet, back_word}
pub use Rattle.safl_term.specs.Sizes.{nodes}
pub use Rattle.safl_word.specs.Words.{Word, widths}
