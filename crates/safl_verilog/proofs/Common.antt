-- What several proofs of this crate cite from elsewhere.
pub use Rattle.std.proofs.Math.Seq.{drop-append_seam}
pub use Rattle.std.proofs.lemmas.Bool.{and_parts}
pub use Rattle.std.proofs.lemmas.Bool.Decides.{Decides-eqb, nat_tests}
pub use Rattle.std.proofs.lemmas.Grind.{flat_map-append}
pub use Rattle.std.proofs.lemmas.List.{append-nil, map-append}
pub use Rattle.std.proofs.lemmas.List.Elements.{filter-append}
pub use Rattle.std.proofs.lemmas.Option.{same_Some, slice_get_within, unwrap_or-slice_get}
pub use Rattle.std.proofs.lemmas.Slice.Eq.{bytes_eq-Decides}
pub use Rattle.std.specs.List.{flat_map, list_all}
pub use Rattle.std.specs.Prelude.{codes, filter, slice_get, ◌⊎◌}
pub use Rattle.safl_grammar.specs.Sets.{Only, within}
pub use Rattle.safl_net.proofs.EachOf.{each_by_index, each_join, each_stands}
pub use Rattle.safl_net.proofs.SignalKinds.{start_part}
pub use Rattle.safl_net.specs.Arranged.{Each, IsInput}
pub use Rattle.safl_net.specs.Making.{signal_widths}
pub use Rattle.safl_net.specs.Names.{is_identifier, is_part, is_start}
pub use Rattle.safl_net.specs.Netlist.{Cell, Input, Kind, Netlist, Reg, Signal, Wire}
pub use Rattle.safl_net.specs.Rules.{IsNetlist}
pub use Rattle.safl_net.specs.Whole.{IsWhole}
pub use Rattle.safl_net.specs.Widths.{op_width}
pub use Rattle.safl_net.specs.Written.{literal}
pub use Rattle.safl_net.specs.declared.cell.Op.{Op}
pub use Rattle.safl_verilog.specs.Files.{Declaration, File, Spot}
pub use Rattle.safl_verilog.specs.Reads.{IsFile, Reads}
pub use Rattle.safl_verilog.specs.Tokens.{IsIdentifier, VerilogTerminal, keyword_text, symbol_text}
pub use Rattle.safl_verilog.specs.declared.fault.VFault.{VFault}
pub use Rattle.safl_verilog.specs.declared.token.Keyword.{Keyword}
pub use Rattle.safl_verilog.specs.declared.token.Sort.{Sort}
pub use Rattle.safl_verilog.specs.declared.token.Symbol.{Symbol}
pub use Rattle.safl_verilog.specs.declared.token.TokenKind.{TokenKind}
pub use Rattle.safl_word.proofs.Lists.{get_some}
pub use Rattle.safl_word.specs.Limits.{net_name_max}
pub use Rattle.safl_word.specs.Numerals.{IsNumeral, is_digit, value}
pub use Rattle.safl_word.specs.Tokens.{base_of, is_blank}
pub use Rattle.safl_word.specs.declared.primitive.Primitive.{Primitive}
