-- What several proofs of this crate cite from elsewhere.
pub use Rattle.std.proofs.Common.{rules, ◌*◌, ◌+◌}
pub use Rattle.std.proofs.lemmas.Bool.{true≢false}
pub use Rattle.safl_labels.specs.Walks.{AreAllLike, shown_if}
pub use Rattle.safl_labels.specs.declared.likeness.Likeness.{Likeness}
pub use Rattle.safl_labels.specs.declared.likeness.Likeness.TheVariants.{Apart, SameTime, SameWord}
pub use Rattle.safl_term.proofs.PlainTerms.{some_nodes}
pub use Rattle.safl_term.specs.Sizes.{nodes, nodes_in}
pub use Rattle.safl_term.specs.Tree.{shown_term, shown_terms}
pub use Rattle.safl_word.specs.declared.primitive.Primitive.{Primitive}
