-- What several proofs of this crate cite from elsewhere.
pub use Rattle.std.proofs.Common.{List, ap, arith, refl, subst, sym, take, ◌+◌, ◌∙◌, ◌≡◌}
pub use Rattle.std.proofs.lemmas.Bool.{false≢true}
pub use Rattle.std.proofs.lemmas.List.{length-append, take_all}
pub use Rattle.std.proofs.lemmas.Option.{same_Some, slice_get_read}
pub use Rattle.std.proofs.lemmas.Result.{IfOk-weaker}
pub use Rattle.std.proofs.lemmas.Slice.Eq.{bytes_eq-Decides}
pub use Rattle.std.specs.List.{AllByRecursion, list_any}
pub use Rattle.std.specs.Result.{result_err}
pub use Rattle.std.specs.Str.{bytes_eq}
pub use Rattle.safl_term.proofs.PlainTrees.{shown_term-Op}
pub use Rattle.safl_term.proofs.SlotsOfLets.{slots-Const, slots-Op}
pub use Rattle.safl_term.specs.Program.{Program}
pub use Rattle.safl_term.specs.Readiness.{or_else}
pub use Rattle.safl_term.specs.Slots.{HasSlots}
pub use Rattle.safl_term.specs.Tree.{shown_term, shown_terms}
pub use Rattle.safl_term.specs.declared.checked.Function.{Function}
pub use Rattle.safl_term.specs.declared.checked.Site.{Site}
pub use Rattle.safl_tree.specs.Tree.{Arms, Binds, Definition, Parameter, Tree, Trees}
pub use Rattle.safl_typing.specs.Heads.{Known, Slot, sites, sites_bound, sites_in}
pub use Rattle.safl_typing.specs.Marks.{AreMarked, BoundMarked, IsMarkOf, IsMarked}
pub use Rattle.safl_typing.specs.Plain.{shown_bindings, shown_expression, shown_expressions}
pub use Rattle.safl_typing.specs.PlainHeads.{known, shown_slots}
pub use Rattle.safl_typing.specs.PlainNames.{earlier}
pub use Rattle.safl_typing.specs.PlainScope.{shifted, shown_scope}
pub use Rattle.safl_typing.specs.PlainTyped.{Says, operands_wanted, shown_wanted}
pub use Rattle.safl_typing.specs.Rewriting.{Bindings, a_binding, all_flexible, flexible, no_binding, placed}
pub use Rattle.safl_typing.specs.Typing.{Calls, Differ, Has, HaveAll, HaveBound, names, slots, widths_of}
pub use Rattle.safl_typing.specs.Walk.{fault, repeated}
pub use Rattle.safl_typing.specs.declared.expression.Bound.{Bound}
pub use Rattle.safl_typing.specs.declared.expression.Marks.{Marks}
pub use Rattle.safl_typing.specs.declared.typed.CheckErr.{CheckErr}
pub use Rattle.safl_word.proofs.Lists.{drop_read}
pub use Rattle.safl_word.specs.Primitives.{result_width}
pub use Rattle.safl_word.specs.Words.{IsWord}
pub use Rattle.safl_word.specs.declared.fault.Fault.{Fault}
pub use Rattle.safl_word.specs.declared.primitive.Primitive.{Primitive}
pub use mathlib.Core.Former.{Count}
