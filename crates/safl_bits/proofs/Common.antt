-- What several proofs of this crate cite from elsewhere.
pub use Rattle.std.proofs.Common.{ap, arith, cond, length, nat_le, not, subst, sym, take, ◌%◌, ◌&&◌, ◌*◌, ◌+◌, ◌<◌, ◌==◌, ◌^◌, ◌||◌, ◌∙◌}
pub use Rattle.std.proofs.Common.{◌≡◌}
pub use Rattle.std.proofs.Math.Nat.{pow-suc}
pub use Rattle.std.proofs.lemmas.Bool.Decides.{nat_tests}
pub use Rattle.std.proofs.lemmas.List.{append-nil, length_push}
pub use Rattle.std.proofs.lemmas.Result.{IfOk-weaker}
pub use Rattle.safl_aiger.specs.Literals.{Assignment, number, on, on_number, shown, values}
pub use Rattle.safl_aiger.specs.declared.literal.Lit.{Lit}
pub use Rattle.safl_bits.specs.Gates.{AreLiterals, Gates, Grows, Holds, IsLiteral, differ}
pub use Rattle.safl_bits.specs.Operators.{gate_number, moved}
pub use Rattle.safl_bits.specs.Sharing.{pairs}
pub use Rattle.safl_word.proofs.Naturals.{more_rows}
pub use Rattle.safl_word.specs.Primitives.{bit_of}
