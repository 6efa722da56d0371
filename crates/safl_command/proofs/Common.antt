-- What several proofs of this crate cite from elsewhere.
pub use Rattle.std.proofs.Common.{List, Option, string_bytes, subst, sym, ℕ, ◌∙◌, ◌≡◌}
pub use Rattle.std.proofs.Math.Bool.{and-false, or-true}
pub use Rattle.std.proofs.lemmas.Bool.{false≢true, or_parts}
pub use Rattle.std.specs.List.{list_all, list_any}
pub use Rattle.std.specs.Option.{option_map_or}
pub use Rattle.std.specs.Prelude.{IfOk, option_map}
pub use Rattle.clap.specs.Facts.{explicit_source}
pub use Rattle.clap.specs.Kinds.{or_else}
pub use Rattle.clap.specs.Lexer.{usize_max}
pub use Rattle.clap.specs.Words.{Kinds, Row, Rule, Shape, Text, found_of}
pub use Rattle.clap.specs.declared.error.kind.ErrorKind.{ErrorKind}
pub use Rattle.clap.specs.declared.parser.matches.ValueSource.TheVariants.{CommandLine, DefaultValue}
pub use Rattle.safl_command.specs.Arranged.{AreTexts, Arranged, GivenOption, IsUnhyphened}
