-- What several proofs of this crate cite from elsewhere.
pub use Rattle.std.proofs.Math.Path.{fun_ext}
pub use Rattle.std.proofs.lemmas.Bool.{cases_eq, cases_order, eq-eqb, false≢true, ne_eqb}
pub use Rattle.std.proofs.lemmas.Option.{same_Some}
pub use Rattle.std.proofs.lemmas.Slice.Eq.{bytes_eq-Decides}
pub use Rattle.std.specs.List.Sorted.{IsPermutation}
pub use Rattle.safl_calls.specs.Machine.{Event, put}
pub use Rattle.safl_calls.specs.Span.{span, spans}
pub use Rattle.safl_term.proofs.Apart.{not_loop, ready_not_yet, sent_unsent}
pub use Rattle.safl_term.proofs.Bridge.{back_of}
pub use Rattle.safl_term.proofs.Places.{fits_all_le, fits_choose, fits_le, place, place_in}
pub use Rattle.safl_term.proofs.Unique.{one_list, one_value}
pub use Rattle.safl_term.proofs.Widths.{not_ready}
pub use Rattle.safl_term.specs.Meaning.{Gives, Main}
pub use Rattle.safl_term.specs.Program.{Program, arity, unit_for}
pub use Rattle.safl_term.specs.Readiness.{Returned, Sent, Stage, Unsent}
pub use Rattle.safl_term.specs.Terms.{Call, Cons, Const, If, Let, Loop, Nil, Op, Term, Terms, Var}
pub use Rattle.safl_term.specs.WellFormed.{IsNumbered, Spans, SpansAll}
pub use Rattle.safl_word.proofs.Options.{some_at}
pub use Rattle.safl_word.proofs.Words.{pick_one, pick_other}
pub use Rattle.safl_word.specs.Lists.{bool_at}
pub use Rattle.safl_word.specs.Primitives.{apply_prim}
pub use Rattle.safl_word.specs.Words.{Word, choose, no_word, pick, slot}
pub use Rattle.safl_word.specs.declared.primitive.Primitive.{Primitive}
