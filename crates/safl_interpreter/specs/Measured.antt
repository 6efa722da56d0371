-- What an evaluation of main is found to come to.
use Rattle.std.specs.Prelude.{◌≡◌, ℕ, ◌<◌, ◌≤◌, List, [], Bool, true, false, Option, Some, None, slice_get, ◌≢◌, length}
use Rattle.safl_word.specs.Words.{Word}
use Rattle.safl_term.specs.Program.{Program}
use Rattle.safl_term.specs.Meaning.{Main, main_cost, main_calls, loops}
use Rattle.safl_calls.specs.Span.{main_span}
use Rattle.safl_interpreter.specs.declared.evaluation.Timing.{Timing}

-- the marks of the functions that main's evaluation calls
pub record AreCalled (C : Program) (args : List Word) {v : Word} (d : Main C args v) (called : List Bool) : Type 0 where
  pub all : length called ≡ C.functions
  pub is_called : (f : ℕ) → slice_get called f ≡ Some true → main_calls C args d f ≢ []
  pub is_not : (f : ℕ) → slice_get called f ≡ Some false → main_calls C args d f ≡ []

-- the figures are those of an evaluation
pub record IsTimed (C : Program) (args : List Word) (t : Timing) : Type 0 where
  pub evaluation : Main C args t.word
  pub calls : t.calls ≡ main_cost C args evaluation
  pub loops : t.loops ≡ loops C evaluation
  pub span : t.span ≡ main_span C args evaluation
  pub called : AreCalled C args evaluation t.called.items

-- no evaluation makes as few calls
abbrev pub TakesMore : Program → List Word → ℕ → Type 0
TakesMore C args budget = (v : Word) (d : Main C args v) → budget < main_cost C args d

-- the figures of an evaluation within the budget of calls, or nothing if each takes more
abbrev pub IsMeasured : Program → List Word → ℕ → Option Timing → Type 0
IsMeasured C args budget (Some t) = IsTimed C args t × (t.calls ≤ budget)
IsMeasured C args budget None = TakesMore C args budget
