-- What several proofs of this crate cite from elsewhere.
pub use Rattle.std.proofs.Common.{[], ap, length, min, sym, ◌+◌, ◌∙◌, ◌∷◌, ◌≡◌}
pub use Rattle.std.proofs.lemmas.Result.{err_from_is_err_and}
pub use Rattle.safl_grammar.proofs.Many.{goes_on, stops_here}
pub use Rattle.safl_grammar.specs.Reading.{read_many}
pub use Rattle.safl_tree.specs.Codes.{comes, operators, word_code}
pub use Rattle.safl_tree.specs.Shown.{shown_bounds, shown_definitions, shown_labelled, shown_parameters, shown_tree, shown_trees}
pub use Rattle.safl_tree.specs.Terminals.{terminals}
pub use Rattle.safl_tree.specs.Tree.{Definition}
pub use Rattle.safl_word.specs.declared.fault.Fault.{Fault}
pub use Rattle.safl_word.specs.declared.token.Token.{Token}
