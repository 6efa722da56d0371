-- What a walk of a source's call machine gives.
use Rattle.std.specs.Prelude.{◌≡◌, ℕ, ◌+◌, ◌*◌, ◌<◌, ◌≤◌, List, Option, Some, None}
use Rattle.safl_word.specs.Words.{Word}
use Rattle.safl_term.specs.Program.{Program}
use Rattle.safl_term.specs.Meaning.{Main, main_cost, loops}
use Rattle.safl_term.specs.Readiness.{back_word}
use Rattle.safl_calls.specs.Machine.{State, opening}
use Rattle.safl_core.specs.Walking as turns
use Rattle.safl_core.specs.declared.walking.Walked.{Walked}
use Rattle.safl_term.specs.Names.{Names}
use Rattle.safl_compiler.specs.Sources.{IsSourceOf}
use Rattle.safl_session.specs.Lines.{AreArguments}

-- Main gives the word, after three events for each call, less two for each tail call. Without a word, as many events as are
-- allowed were fired, and main gives no value within that many.
abbrev pub MainGives : Program → List Word → ℕ → ℕ → Option Word → Type 0
MainGives C words steps events (Some v) = (d : Main C words v) × (events + 2 * loops C d ≡ 3 * main_cost C words d)
MainGives C words steps events None =
    (events ≡ steps) × ((v : Word) (d : Main C words v) → steps + 2 * loops C d < 3 * main_cost C words d)

-- From the opening state, the turns picked by the numbers of the seed lead to a state in this many events, at most as many as are
-- allowed, with at most this many units busy at once. The result is what main has returned in that state.
pub record WalksFrom (C : Program) (words : List Word) (seed steps : ℕ) (w : Walked) : Type 0 where
  pub last : State
  pub number : ℕ
  pub walked : turns.Walked C words opening seed w.events last number w.units
  pub within : w.events ≤ steps
  pub returned : w.result ≡ back_word (last.site 0)
  pub gives : MainGives C words steps w.events w.result

-- the source spells a program, the arguments are read as words for main's parameters, and the walk is one of that program
abbrev pub Walks : List ℕ → List (List ℕ) → ℕ → ℕ → Walked → Type 0
Walks source args seed steps w = (C : Program) × (D : Names) × (words : List Word) × IsSourceOf source C D
    × AreArguments (C.params C.main) args words × WalksFrom C words seed steps w
