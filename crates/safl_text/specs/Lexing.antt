-- Why a source has no tokens.
use Rattle.std.specs.Prelude.{◌≡◌, ℕ, List}
use Rattle.safl_word.specs.Breaks.{BreaksAt}
use Rattle.safl_text.specs.declared.error.LexErr.{LexErr}
use Rattle.safl_text.specs.declared.error.LexErr.TheVariants as errors

-- the error is the first lexical fault of the source, whose two numbers are 0, or out of memory
abbrev pub RefusesTokens : List ℕ → LexErr → Type 0
RefusesTokens source (errors.Refused f) = BreaksAt source f.rule f.place × (f.first ≡ 0) × (f.second ≡ 0)
RefusesTokens source errors.NoMemory = Unit {0}
