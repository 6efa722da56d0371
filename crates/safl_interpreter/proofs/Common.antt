-- What several proofs of this crate cite from elsewhere.
pub use Rattle.std.proofs.lemmas.List.{get_or_read}
pub use Rattle.safl_interpreter.specs.Accounts.{shown_account}
pub use Rattle.safl_interpreter.specs.Comes.{Figures, figures}
pub use Rattle.safl_interpreter.specs.Turns.{Enter, shown_turn}
pub use Rattle.safl_term.proofs.Widths.{widths_append}
pub use Rattle.safl_term.specs.Program.{Program}
pub use Rattle.safl_term.specs.Tree.{shown_term, shown_terms}
pub use Rattle.safl_term.specs.WellFormed.{HasWidth, IsWellFormed}
pub use Rattle.safl_word.specs.Primitives.{apply_prim}
pub use Rattle.safl_word.specs.Words.{Word, choose, no_word, slot, widths}
pub use Rattle.safl_word.specs.declared.primitive.Primitive.{Primitive}
