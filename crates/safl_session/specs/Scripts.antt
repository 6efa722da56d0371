-- Scripts: a call on each line.
use Rattle.std.specs.Prelude.{◌≡◌, ℕ, zero, suc, ◌+◌, ◌⊎◌, List, [], ◌∷◌, ◌++◌, length, take, drop}
use Rattle.std.specs.List.{AllZip}
use Rattle.safl_word.specs.Words.{Word}
use Rattle.safl_session.specs.declared.script.ScriptErr.{ScriptErr}
use Rattle.safl_session.specs.declared.script.ScriptErr.TheVariants as errors
use Rattle.safl_session.specs.Pieces.{HasLines}
use Rattle.safl_session.specs.Lines.{IsCall, ScriptFault, HasScriptFault, error_of}

-- the lines of the text have the arguments of these calls, one by one
abbrev pub IsScript : List ℕ → List ℕ → List (List Word) → Type 0
IsScript widths text calls = (lines : List (List ℕ)) × HasLines text lines × AllZip (IsCall widths) lines calls

-- the fault of the first line that is no call
pub record IsScriptFault (widths text : List ℕ) (f : ScriptFault) : Type 0 where
  pub before : List (List ℕ)
  pub line : List ℕ
  pub after : List (List ℕ)
  pub lines : HasLines text (before ++ line ∷ after)
  pub calls : List (List Word)
  pub good : AllZip (IsCall widths) before calls
  pub fault : HasScriptFault widths line (length before + 1) f

-- the error says the fault of the script, or out of memory
abbrev pub RefusesScript : List ℕ → List ℕ → ScriptErr → Type 0
RefusesScript widths text e = (e ≡ errors.NoMemory) ⊎ ((f : ScriptFault) × (e ≡ error_of f) × IsScriptFault widths text f)

-- a list of words, cut into this many calls with this many words each
abbrev pub calls_of : ℕ → ℕ → List Word → List (List Word)
calls_of zero arity words = []
calls_of (suc count) arity words = take arity words ∷ calls_of count arity (drop arity words)

-- ---- parts by name

abbrev pub AreCalls : List ℕ → List (List ℕ) → List (List Word) → Type 0
AreCalls widths lines calls = AllZip (IsCall widths) lines calls
