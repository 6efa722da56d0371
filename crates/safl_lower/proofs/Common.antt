-- What several proofs of this crate cite from elsewhere.
pub use Rattle.std.proofs.Common.{Some, ap, arith, cond, length, map, refl, subst, sym, ◌*◌, ◌+◌, ◌∙◌, ◌≡◌}
pub use Rattle.std.proofs.Math.Bool.{and-true}
pub use Rattle.std.proofs.Math.Facts.{eqb_yes}
pub use Rattle.std.proofs.lemmas.Bool.{eqb-true, ne_eqb}
pub use Rattle.std.proofs.lemmas.List.{map_push, take_all}
pub use Rattle.std.proofs.lemmas.Option.{slice_get_read}
pub use Rattle.std.specs.Option.{option_or, unwrap_or}
pub use Rattle.safl_lower.specs.Bits.{ReadyAt, is_ready}
pub use Rattle.safl_lower.specs.Entries.{asked, went}
pub use Rattle.safl_lower.specs.Heights.{AllWithin, Within}
pub use Rattle.safl_lower.specs.Lowering.{LowersAll, goes_of}
pub use Rattle.safl_lower.specs.Resets.{word_in, word_or_zero}
pub use Rattle.safl_lower.specs.Sources.{AreSources, Builds, HasRoom, IsSource}
pub use Rattle.safl_lower.specs.Tables.{LoadFits, entry_in, one_word, taken}
pub use Rattle.safl_lower.specs.Typing.{Owner, Typed, hold_calls, holds_calls, sites_in, sites_of, tails_of}
pub use Rattle.safl_lower.specs.declared.loads.Load.{Load}
pub use Rattle.safl_lower.specs.declared.lowered.Lowered.{Lowered}
pub use Rattle.safl_lower.specs.declared.lowered.LoweredAll.{LoweredAll}
pub use Rattle.safl_lower.specs.declared.lowered.Out.{Out}
pub use Rattle.safl_lower.specs.declared.lowered.Ports.{Ports}
pub use Rattle.safl_lower.specs.declared.lowered.Readiness.{Readiness}
pub use Rattle.safl_lower.specs.declared.lowered.Readiness.TheVariants.{Always, Never, When}
pub use Rattle.safl_lower.specs.declared.lowered.SitePorts.{SitePorts}
pub use Rattle.safl_lower.specs.declared.lowered.SiteTable.{SiteTable}
pub use Rattle.safl_lower.specs.declared.lowered.TailCall.{TailCall}
pub use Rattle.safl_lower.specs.declared.lowered.Want.{Want}
pub use Rattle.safl_lower.specs.declared.resets.Form.{Form}
pub use Rattle.safl_net.proofs.Growth.{fits, grows_on, width_is, wired_before}
pub use Rattle.safl_net.proofs.Settling.{settles_on, settles_same}
pub use Rattle.safl_net.specs.Bits.{gate, on}
pub use Rattle.safl_net.specs.Growth.{Grows, Val, Wired, words}
pub use Rattle.safl_net.specs.Names.{IsTidy}
pub use Rattle.safl_net.specs.Netlist.{Netlist}
pub use Rattle.safl_net.specs.Settled.{Settles}
pub use Rattle.safl_net.specs.Widths.{op_width, prim_width}
pub use Rattle.safl_net.specs.declared.cell.Sig.{Sig}
pub use Rattle.safl_term.proofs.OrElse.{neither, or_else_assoc, or_else_none, with_none}
pub use Rattle.safl_term.proofs.Places.{fits_all_le, fits_le}
pub use Rattle.safl_term.proofs.Smaller.{smaller_at}
pub use Rattle.safl_term.specs.Program.{Program}
pub use Rattle.safl_term.specs.Readiness.{or_else}
pub use Rattle.safl_term.specs.Sizes.{nodes, nodes_in}
pub use Rattle.safl_term.specs.Tree.{shown_term, shown_terms}
pub use Rattle.safl_term.specs.WellFormed.{Spans, SpansAll}
pub use Rattle.safl_word.proofs.Booleans.{false_true, or_none}
pub use Rattle.safl_word.proofs.Lists.{get_index, get_some, nil_at_end, take_next}
pub use Rattle.safl_word.proofs.Words.{pick_ap, word_eq}
pub use Rattle.safl_word.specs.Limits.{width_max}
pub use Rattle.safl_word.specs.Primitives.{apply_prim, result_width}
pub use Rattle.safl_word.specs.Words.{Word, choose, pick}
pub use Rattle.safl_word.specs.declared.primitive.Primitive.{Primitive}
