-- What several proofs of this crate cite from elsewhere.
pub use Rattle.std.proofs.Common.{[], length, sym, ◌∙◌, ◌∷◌, ◌≡◌}
pub use Rattle.std.proofs.lemmas.Result.{err_from_is_err_and}
pub use Rattle.safl_grammar.proofs.Many.{goes_on, stops_here}
pub use Rattle.safl_grammar.specs.Reading.{read_many}
pub use Rattle.safl_grammar.specs.Syntax.{Unexpected}
pub use Rattle.safl_verilog.specs.Codes.{sort_codes}
pub use Rattle.safl_verilog.specs.declared.fault.VFault.{VFault}
pub use Rattle.safl_verilog.specs.declared.token.Keyword.{Keyword}
pub use Rattle.safl_verilog.specs.declared.token.Symbol.{Symbol}
pub use Rattle.safl_verilog.specs.declared.token.Token.{Token}
pub use Rattle.safl_verilog.specs.declared.token.TokenKind.{TokenKind}
pub use Rattle.safl_vparse.specs.Fronts.{RefusesBytes, measured}
pub use Rattle.safl_vparse.specs.Shown.{shown_all, shown_file}
pub use Rattle.safl_vparse.specs.declared.front.Front.{Front}
pub use Rattle.safl_word.proofs.Lists.{first_and_rest, slice_rest}
pub use Rattle.safl_word.specs.Numerals.{is_digit}
pub use Rattle.safl_word.specs.Runs.{IsRun}
