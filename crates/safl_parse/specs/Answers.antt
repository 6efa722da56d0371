-- The answers of parsing a source.
use Rattle.std.specs.Prelude.{◌≡◌, ℕ, List, Result, Ok, Err}
use Rattle.safl_word.specs.declared.fault.Fault.{Fault}
use Rattle.safl_tree.specs.Tree.{Definition}
use Rattle.safl_tree.specs.Source.{SpellsProgram, SyntaxFault}
use Rattle.safl_parse.specs.Spelled.{source_of, program_of}
use Rattle.safl_parse.specs.declared.parsed.Parsed.{Parsed}
use Rattle.safl_parse.specs.TokenAnswers.{OnlyNoMemory}
use Rattle.safl_parse.specs.declared.syntax.ParseErr.{ParseErr}
use Rattle.safl_parse.specs.declared.syntax.ParseErr.TheVariants as answers

-- the result has the source, and the program that the source spells
abbrev pub Spells : List ℕ → Parsed → Type 0
Spells text p = (source_of p ≡ text) × SpellsProgram text (program_of p)

-- the error is the first fault of the source, or out of memory
abbrev pub RefusedFirst : List ℕ → ParseErr → Type 0
RefusedFirst text (answers.Refused f) = SyntaxFault text f
RefusedFirst text answers.NoMemory = Unit {0}

-- the answer is this program, or out of memory
abbrev pub SpelledUnlessNoMemory : List Definition → Result Parsed ParseErr → Type 0
SpelledUnlessNoMemory p (Ok s) = program_of s ≡ p
SpelledUnlessNoMemory p (Err e) = OnlyNoMemory e

-- the answer is this fault, or out of memory
abbrev pub FaultUnlessNoMemory : Fault → Result Parsed ParseErr → Type 0
FaultUnlessNoMemory f (Ok s) = ⊥
FaultUnlessNoMemory f (Err (answers.Refused g)) = g ≡ f
FaultUnlessNoMemory f (Err answers.NoMemory) = Unit {0}
