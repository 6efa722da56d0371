-- The figures of an evaluation.
use Rattle.std.specs.Prelude.{◌≡◌, ℕ, ◌⊎◌, List, Option, Some, None, true, false}
use Rattle.safl_word.specs.Words.{Word}
use Rattle.safl_term.specs.Program.{Program}
use Rattle.safl_term.specs.Meaning.{Main, main_cost, loops}
use Rattle.safl_calls.specs.Span.{main_span}
use Rattle.safl_sites.specs.Plan.{Choice}
use Rattle.safl_circuit.specs.Correct.{Unshared, latest}
use Rattle.safl_interpreter.specs.Measured.{TakesMore}
use Rattle.safl_span.specs.declared.figures.Figures.{Figures}

-- the evaluation calls no function at a unit that has an arbiter, or its span is the last cycle in which done may come
abbrev pub IsExact : (C : Program) → Choice → (args : List Word) {v : Word} → Main C args v → Type 0
IsExact C P args d = Unshared C P args d ⊎ (main_span C args d ≡ latest C args d)

-- the figures are those of an evaluation
pub record AreFigures (C : Program) (P : Choice) (args : List Word) (f : Figures) : Type 0 where
  pub evaluation : Main C args f.word
  pub calls : f.calls ≡ main_cost C args evaluation
  pub loops : f.loops ≡ loops C evaluation
  pub span : f.span ≡ main_span C args evaluation
  pub latest : f.latest ≡ latest C args evaluation
  pub is_exact : f.exact ≡ true → IsExact C P args evaluation
  pub is_not : f.exact ≡ false → IsExact C P args evaluation → ⊥

-- the figures of an evaluation, or nothing if each takes more calls than the budget
abbrev pub IsTime : Program → Choice → List Word → ℕ → Option Figures → Type 0
IsTime C P args budget (Some f) = AreFigures C P args f
IsTime C P args budget None = TakesMore C args budget
