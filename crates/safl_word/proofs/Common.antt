-- What several proofs of this crate cite from elsewhere.
pub use Rattle.std.proofs.Common.{arith, take, true, ◌<◌, ◌^◌, ◌≡◌}
pub use Rattle.std.proofs.Math.Pow.{mod-mod-pow, pow_mono}
pub use Rattle.std.proofs.lemmas.Bool.{and_parts, eqb-true, le-leb, lt-ltb}
pub use Rattle.std.proofs.lemmas.Bool.Decides.{nat_tests}
pub use Rattle.std.proofs.lemmas.List.Folds.{list_all-append}
pub use Rattle.std.proofs.lemmas.Nat.Bits.{ones_shr}
pub use Rattle.std.proofs.lemmas.Option.{same_Some}
pub use Rattle.std.specs.List.{list_all}
pub use Rattle.safl_word.specs.Limits.{width_max}
pub use Rattle.safl_word.specs.Numerals.{IsNumeral, is_digit, value}
pub use Rattle.safl_word.specs.Runs.{EndsRun}
pub use Rattle.safl_word.specs.declared.fault.Rule.{Rule}
pub use Rattle.safl_word.specs.declared.primitive.Primitive.{Primitive}
pub use Rattle.safl_word.specs.declared.token.Key.{Key}
pub use Rattle.safl_word.specs.declared.token.Sym.{Sym}
pub use Rattle.safl_word.specs.declared.token.TokenKind.{TokenKind}
