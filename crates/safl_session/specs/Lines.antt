-- Lines of a script. Each has the arguments of a call.
use Rattle.std.specs.Prelude.{◌≡◌, ◌≢◌, ℕ, ◌+◌, ◌<◌, ◌⊎◌, List, [], ◌∷◌, ◌++◌, length, Some, slice_get}
use Rattle.safl_word.specs.Words.{Word, IsWord}
use Rattle.safl_word.specs.Numerals.{IsBounded, value}
use Rattle.safl_word.specs.Limits.{argument_max, value_bound}
use Rattle.safl_session.specs.declared.script.ScriptErr.{ScriptErr}
use Rattle.safl_session.specs.declared.script.ScriptErr.TheVariants as errors
use Rattle.safl_session.specs.Pieces.{HasWords}

-- 1 to 39 digits of a number that fits the width
pub record IsArgument (width : ℕ) (text : List ℕ) (v : Word) : Type 0 where
  pub numeral : IsBounded 10 argument_max value_bound text
  pub is : v ≡ record { width = width; bits = value 10 text }
  pub word : IsWord v

-- there is one argument for each width, and one text for each argument
abbrev pub AreArguments : List ℕ → List (List ℕ) → List Word → Type 0
AreArguments [] [] [] = Unit {0}
AreArguments (w ∷ ws) (t ∷ ts) (v ∷ vs) = IsArgument w t v × AreArguments ws ts vs
AreArguments _ _ _ = ⊥

-- the words of the line spell these arguments
abbrev pub IsCall : List ℕ → List ℕ → List Word → Type 0
IsCall widths line args = (words : List (List ℕ)) × HasWords line words × AreArguments widths words args

-- the arguments that the words of the line spell are appended
abbrev pub AppendsCall : List ℕ → List ℕ → List Word → List Word → Type 0
AppendsCall widths line old new = (args : List Word) × IsCall widths line args × (new ≡ old ++ args)

-- There is one text for each width. One is no argument of its width, and this is the first.
pub record HaveMisfit (widths : List ℕ) (texts : List (List ℕ)) : Type 0 where
  pub same : length texts ≡ length widths
  pub index : ℕ
  pub width : ℕ
  pub text : List ℕ
  pub at_width : slice_get widths index ≡ Some width
  pub at_text : slice_get texts index ≡ Some text
  pub bad : (v : Word) → IsArgument width text v → ⊥
  pub before : (i w : ℕ) (t : List ℕ) → i < index → slice_get widths i ≡ Some w → slice_get texts i ≡ Some t → (v : Word) × IsArgument w t v

-- a fault of a script: a line has so many words, or the word at a place is no argument. Lines and places are counted from 1
pub data ScriptFault : Type 0 where
  Count : (line given : ℕ) → ScriptFault
  Argument : (line place : ℕ) → ScriptFault

-- The line has this fault: its number of words, if that is not the number of widths; else the first word that is no argument.
abbrev pub HasScriptFault : List ℕ → List ℕ → ℕ → ScriptFault → Type 0
HasScriptFault widths line number (Count l given) =
    (l ≡ number) × ((words : List (List ℕ)) × HasWords line words × (length words ≡ given) × (given ≢ length widths))
HasScriptFault widths line number (Argument l place) =
    (l ≡ number) × ((words : List (List ℕ)) × HasWords line words × (m : HaveMisfit widths words) × (place ≡ m.index + 1))

-- the error that says a fault
abbrev pub error_of : ScriptFault → ScriptErr
error_of (Count line given) = errors.Count line given
error_of (Argument line place) = errors.Argument line place

-- the error says the fault of the line, or out of memory
abbrev pub RefusesLine : List ℕ → List ℕ → ℕ → ScriptErr → Type 0
RefusesLine widths line number e = (e ≡ errors.NoMemory) ⊎ ((f : ScriptFault) × (e ≡ error_of f) × HasScriptFault widths line number f)
