-- What several proofs of this crate cite from elsewhere.
pub use Rattle.std.proofs.Common.{[], ap, arith, drop, length, replicate, subst, sym, ◌++◌, ◌+◌, ◌-◌, ◌∙◌, ◌∷◌, ◌≡◌}
pub use Rattle.std.proofs.lemmas.Bool.Decides.{nat_tests}
pub use Rattle.std.proofs.lemmas.List.{length-replicate, length_push}
pub use Rattle.std.specs.List.{list_all}
pub use Rattle.safl_aiger.specs.Circuits.{Circuit, base, names_of}
pub use Rattle.safl_aiger.specs.Lines.{text_lines}
pub use Rattle.safl_aiger.specs.Reads.{and_numbers, kinds_from, latch_numbers, output_numbers, own_numbers}
pub use Rattle.safl_aiger.specs.Sections.{Fails, Passes}
pub use Rattle.safl_aiger.specs.Symbols.{named}
pub use Rattle.safl_aiger.specs.declared.circuit.Name.{Name}
pub use Rattle.safl_aiger.specs.declared.literal.Lit.{Lit}
pub use Rattle.safl_aiger.specs.declared.reading.AigRule.{AigRule}
pub use Rattle.safl_aiger.specs.declared.reading.LineKind.{LineKind}
pub use Rattle.safl_aiger.specs.declared.reading.LineKind.TheVariants.{And}
pub use Rattle.safl_aiger.specs.declared.symbols.Sort.{Sort}
