-- The answers of parsing tokens.
use Rattle.std.specs.Prelude.{◌≡◌, ℕ, List, Result, Ok, Err}
use Rattle.safl_word.specs.declared.token.Token.{Token}
use Rattle.safl_word.specs.declared.fault.Fault.{Fault}
use Rattle.safl_tree.specs.Tree.{Definition}
use Rattle.safl_tree.specs.Source.{TokensFault}
use Rattle.safl_tree.specs.Shown.{shown_program}
use Rattle.safl_tree.specs.declared.tree.Program.{Program}
use Rattle.safl_parse.specs.declared.syntax.ParseErr.{ParseErr}
use Rattle.safl_parse.specs.declared.syntax.ParseErr.TheVariants as answers

-- the error is the first fault of the tokens, or out of memory
abbrev pub RefusedRightly : List ℕ → List Token → ParseErr → Type 0
RefusedRightly text ts (answers.Refused f) = TokensFault text ts f
RefusedRightly text ts answers.NoMemory = Unit {0}

-- the error is out of memory
abbrev pub OnlyNoMemory : ParseErr → Type 0
OnlyNoMemory (answers.Refused f) = ⊥
OnlyNoMemory answers.NoMemory = Unit {0}

-- the answer is this program, or out of memory
abbrev pub IsProgramUnlessNoMemory : List Definition → Result Program ParseErr → Type 0
IsProgramUnlessNoMemory p (Ok program) = shown_program program ≡ p
IsProgramUnlessNoMemory p (Err e) = OnlyNoMemory e

-- the answer is this fault, or out of memory
abbrev pub IsFaultUnlessNoMemory : Fault → Result Program ParseErr → Type 0
IsFaultUnlessNoMemory f (Ok program) = ⊥
IsFaultUnlessNoMemory f (Err (answers.Refused g)) = g ≡ f
IsFaultUnlessNoMemory f (Err answers.NoMemory) = Unit {0}
