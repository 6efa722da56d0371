-- What is shown of a parsed source.
use Rattle.std.specs.Prelude.{ℕ, List}
use Rattle.safl_tree.specs.Tree.{Definition}
use Rattle.safl_tree.specs.Shown.{shown_program}
use Rattle.safl_parse.specs.declared.parsed.Parsed.{Parsed}

-- the bytes of the source
abbrev pub source_of : Parsed → List ℕ
source_of p = p.source.items

-- the program that was parsed
abbrev pub program_of : Parsed → List Definition
program_of p = shown_program p.program
