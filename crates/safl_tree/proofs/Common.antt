-- What several proofs of this crate cite from elsewhere.
pub use Rattle.std.proofs.Common.{ap, arith, drop, refl, ◌*◌, ◌+◌, ◌↔◌, ◌≤◌}
pub use Rattle.std.proofs.lemmas.Bool.{cases_lt, le-leb, leb-true, ltb-true}
pub use Rattle.std.proofs.lemmas.Option.{cond_some}
pub use Rattle.std.specs.List.{sum_by}
pub use Rattle.std.specs.Prelude.{◌⊎◌}
pub use Rattle.safl_grammar.proofs.Many.{goes_on, stops_here}
pub use Rattle.safl_grammar.proofs.Parses.{Parses, parses_nothing}
pub use Rattle.safl_grammar.proofs.Sets.{apart_within, subset_within}
pub use Rattle.safl_grammar.specs.Reading.{Reading, read_either, read_limited, read_token}
pub use Rattle.safl_grammar.specs.Sets.{Every, Only, within}
pub use Rattle.safl_grammar.specs.Syntax.{Deep}
pub use Rattle.safl_grammar.specs.Text.{at_end}
pub use Rattle.safl_tree.specs.Grammar.{ArmList, is_written_width, shallow}
pub use Rattle.safl_tree.specs.Printable.{AllKeepLevels}
pub use Rattle.safl_tree.specs.Printed.{Writes, param_words, printed, separated}
pub use Rattle.safl_tree.specs.Shown.{shown_bounds, shown_definitions, shown_labelled, shown_parameters, shown_tree, shown_trees}
pub use Rattle.safl_tree.specs.Sizes.{arm_size, size}
pub use Rattle.safl_tree.specs.Source.{SpellsProgram}
pub use Rattle.safl_tree.specs.Terminals.{Terminal, terminals}
pub use Rattle.safl_tree.specs.Tree.{Definition, Labelled, Parameter, Tree, arms_of, binds_of, trees_of}
pub use Rattle.safl_tree.specs.declared.tree.Arm.{Arm}
pub use Rattle.safl_tree.specs.declared.tree.Bind.{Bind}
pub use Rattle.safl_tree.specs.declared.tree.Def.{Def}
pub use Rattle.safl_tree.specs.declared.tree.Expr.{Expr}
pub use Rattle.safl_tree.specs.declared.tree.Node.{Node}
pub use Rattle.safl_tree.specs.declared.tree.Param.{Param}
pub use Rattle.safl_word.proofs.Lists.{drop_read, sum_last}
pub use Rattle.safl_word.proofs.Naturals.{work_down}
pub use Rattle.safl_word.specs.Limits.{width_max}
pub use Rattle.safl_word.specs.Tokens.{HasTokens, IsSourceName, IsToken, key_text, sym_text}
pub use Rattle.safl_word.specs.declared.fault.Fault.{Fault}
pub use Rattle.safl_word.specs.declared.primitive.Primitive.{Primitive}
pub use Rattle.safl_word.specs.declared.token.Key.{Key}
pub use Rattle.safl_word.specs.declared.token.Sym.{Sym}
pub use Rattle.safl_word.specs.declared.token.Token.{Token}
pub use Rattle.safl_word.specs.declared.token.TokenKind.{TokenKind}
