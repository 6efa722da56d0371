-- What several proofs of this crate cite from elsewhere.
pub use Rattle.std.proofs.Common.{List, ap, arith, drop, subst, sym, ◌++◌, ◌∙◌, ◌≡◌}
pub use Rattle.std.proofs.lemmas.Bool.{or_parts}
pub use Rattle.std.proofs.lemmas.Bool.Decides.{nat_tests}
pub use Rattle.std.proofs.lemmas.List.{drop_all}
pub use Rattle.std.proofs.lemmas.Option.{same_Some, slice_get_read}
pub use Rattle.std.proofs.lemmas.Result.{IfOk-weaker, err_from_is_err_and}
pub use Rattle.std.specs.Option.{option_map}
pub use Rattle.std.specs.Prelude.{slice_get, ◌&&◌, ◌==◌, ◌||◌}
pub use Rattle.std.specs.Str.{bytes_eq}
pub use Rattle.safl_check.specs.Groups.{name_in}
pub use Rattle.safl_reshape.specs.Changed.{Change, calls, calls_bound, calls_in, changed, changed_definitions, is_member, sites_in_tree}
pub use Rattle.safl_reshape.specs.Counting.{nodes_bounds, nodes_labelled, nodes_list}
pub use Rattle.safl_reshape.specs.Laws.{IsAlike, Spares}
pub use Rattle.safl_reshape.specs.Limits.{KeepsLimits, site_total}
pub use Rattle.safl_reshape.specs.Lists.{calls_labelled, change_of, sites_bounds, sites_labelled, sites_list, zipped}
pub use Rattle.safl_reshape.specs.Reshaped.{Unjoined, copy_of, copying_call, own_call, put_behind}
pub use Rattle.safl_term.specs.Checked.{CheckedProgram, IsChecked}
pub use Rattle.safl_term.specs.Laws.{OneEvaluation}
pub use Rattle.safl_term.specs.Program.{Program, arity}
pub use Rattle.safl_term.specs.Terms.{Cons, Const, Loop, Nil, Term, Terms, Var}
pub use Rattle.safl_tree.proofs.Formed.{formed_at}
pub use Rattle.safl_tree.specs.Printable.{AllKeepLevels}
pub use Rattle.safl_tree.specs.Shown.{shown_bounds, shown_definitions, shown_labelled, shown_parameters, shown_program, shown_tree}
pub use Rattle.safl_tree.specs.Shown.{shown_trees}
pub use Rattle.safl_tree.specs.Tree.{Arms, Binds, Bound, Definition, Labelled, Parameter, Tree, Trees, arms_of, binds_of, place_of}
pub use Rattle.safl_tree.specs.Tree.{trees_of}
pub use Rattle.safl_tree.specs.declared.tree.Arm.{Arm}
pub use Rattle.safl_tree.specs.declared.tree.Bind.{Bind}
pub use Rattle.safl_tree.specs.declared.tree.Def.{Def}
pub use Rattle.safl_tree.specs.declared.tree.Expr.{Expr}
pub use Rattle.safl_tree.specs.declared.tree.Param.{Param}
pub use Rattle.safl_typing.proofs.Counts.{has_sites}
pub use Rattle.safl_typing.proofs.HeadsByName.{site_plain}
pub use Rattle.safl_typing.proofs.Limits.{no_long_let}
pub use Rattle.safl_typing.proofs.Placing.{heads_length}
pub use Rattle.safl_typing.proofs.Walks.{functions_rise}
pub use Rattle.safl_typing.specs.Forms.{AreFunctionsOf, Form, FunctionForm, IsFunctionOf, nodes_of, shown_form}
pub use Rattle.safl_typing.specs.Heads.{Callee, Head, Known, Slot, callee, heads, is_site, params_of, sites, sites_bound, unit_of}
pub use Rattle.safl_typing.specs.PlainHeads.{known}
pub use Rattle.safl_typing.specs.Rewriting.{Expression, long_let, rewritten, rewritten_all, rewritten_arms, rewritten_binds}
pub use Rattle.safl_typing.specs.Typing.{Calls, Differ, Has, HaveAll, widths_of}
pub use Rattle.safl_word.proofs.Lists.{drop_read}
pub use Rattle.safl_word.proofs.Naturals.{zero_suc}
pub use Rattle.safl_word.specs.Limits.{bindings_max}
pub use Rattle.safl_word.specs.Words.{Word}
pub use Rattle.safl_word.specs.declared.primitive.Primitive.{Primitive}
