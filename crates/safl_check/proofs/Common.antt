-- What several proofs of this crate cite from elsewhere.
pub use Rattle.std.proofs.Common.{Some, ap, drop, map, refl, sym, take, ◌++◌, ◌∙◌, ◌≡◌}
pub use Rattle.std.proofs.lemmas.List.{drop_more, length-map}
pub use Rattle.std.proofs.lemmas.Option.{slice_get_read}
pub use Rattle.std.proofs.lemmas.Result.{err_from_is_err_and, on_ok_weaker}
pub use Rattle.std.specs.List.{All, list_any}
pub use Rattle.std.specs.Option.{option_map, option_or}
pub use Rattle.std.specs.Str.{bytes_eq}
pub use Rattle.std.specs.String.{string_bytes}
pub use Rattle.safl_check.specs.Groups.{earlier, group_fault_at}
pub use Rattle.safl_check.specs.Parts.{pending}
pub use Rattle.safl_term.specs.Readiness.{or_else}
pub use Rattle.safl_term.specs.Tables.{BodyHasSlots}
pub use Rattle.safl_term.specs.declared.checked.Function.{Function}
pub use Rattle.safl_term.specs.declared.checked.Site.{Site}
pub use Rattle.safl_tree.specs.Shown.{shown_definition, shown_definitions, shown_parameter, shown_parameters, shown_tree}
pub use Rattle.safl_tree.specs.Tree.{Definition}
pub use Rattle.safl_tree.specs.declared.tree.Bind.{Bind}
pub use Rattle.safl_tree.specs.declared.tree.Def.{Def}
pub use Rattle.safl_tree.specs.declared.tree.Param.{Param}
pub use Rattle.safl_typing.specs.Forms.{shown_param}
pub use Rattle.safl_typing.specs.Heads.{Slot, heads, slot_of}
pub use Rattle.safl_typing.specs.Plain.{shown_expression}
pub use Rattle.safl_typing.specs.PlainHeads.{known, shown_head, shown_heads, shown_slots}
pub use Rattle.safl_typing.specs.PlainTyped.{RefusesFault}
pub use Rattle.safl_typing.specs.Rewriting.{rewritten}
pub use Rattle.safl_typing.specs.Walk.{limit}
pub use Rattle.safl_typing.specs.declared.typed.CheckErr.{CheckErr}
pub use Rattle.safl_word.specs.Limits.{functions_max}
pub use Rattle.safl_word.specs.declared.fault.Fault.{Fault}
