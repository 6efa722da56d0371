-- What several proofs of this crate cite from elsewhere.
pub use Rattle.std.proofs.Common.{ap, arith, sym, ◌∙◌}
pub use Rattle.std.proofs.lemmas.List.Sums.{sum_by-cons}
pub use Rattle.std.proofs.lemmas.Option.{same_Some, slice_get_read}
pub use Rattle.std.specs.Prelude.{◌≢◌}
pub use Rattle.safl_term.specs.Checked.{IsChecked}
pub use Rattle.safl_term.specs.Program.{Program, arity}
pub use Rattle.safl_term.specs.Tree.{shown_term, shown_terms}
pub use Rattle.safl_term.specs.Weights.{code_weight}
pub use Rattle.safl_term.specs.WellFormed.{Spans, SpansAll}
pub use Rattle.safl_word.proofs.Lists.{sum_last}
pub use Rattle.safl_word.proofs.Naturals.{work_down}
pub use Rattle.safl_word.proofs.Widths.{apply_width, widths}
pub use Rattle.safl_word.specs.Limits.{width_max}
pub use Rattle.safl_word.specs.Primitives.{apply_prim, result_width}
pub use Rattle.safl_word.specs.Words.{Word, choose, pick, slot}
pub use Rattle.safl_word.specs.declared.primitive.Primitive.{Primitive}
pub use mathlib.Core.Former.{Count}
