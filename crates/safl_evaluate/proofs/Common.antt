-- What several proofs of this crate cite from elsewhere.
pub use Rattle.std.proofs.Common.{◌*◌, ◌+◌}
pub use Rattle.std.proofs.lemmas.Bool.{false≢true}
pub use Rattle.std.proofs.lemmas.List.{get_or-set_other, get_or-set_same, nil_from_length}
pub use Rattle.std.proofs.lemmas.Option.{same_Some}
pub use Rattle.safl_calls.proofs.Basics.{some_none}
pub use Rattle.safl_evaluate.specs.Asking.{Asks}
pub use Rattle.safl_evaluate.specs.Laying.{Laid, SameOutside, place}
pub use Rattle.safl_evaluate.specs.Stages.{back_at}
pub use Rattle.safl_evaluate.specs.declared.kept.Kept.{Kept}
pub use Rattle.safl_evaluate.specs.declared.places.Place.{Place}
pub use Rattle.safl_evaluate.specs.declared.stage.Stage.{Stage}
pub use Rattle.safl_evaluate.specs.declared.wants.Wants.{Wants}
pub use Rattle.safl_term.proofs.PlainTerms.{some_nodes}
pub use Rattle.safl_term.specs.Readiness.{word_of}
pub use Rattle.safl_term.specs.Sizes.{nodes, nodes_in}
pub use Rattle.safl_term.specs.Tree.{shown_term, shown_terms}
pub use Rattle.safl_word.proofs.Words.{pick_other}
pub use Rattle.safl_word.specs.Words.{Word}
pub use Rattle.safl_word.specs.declared.primitive.Primitive.{Primitive}
