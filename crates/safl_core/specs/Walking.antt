-- Walks, whose events are picked by a sequence of numbers.
use Rattle.std.specs.Prelude.{◌≡◌, ℕ, ◌+◌, ◌*◌, ◌<◌, ◌≤◌, List, max, IsSome, ◌⊎◌}
use Rattle.safl_word.specs.Words.{Word}
use Rattle.safl_word.specs.Naturals.{number_after}
use Rattle.safl_term.specs.Meaning.{Main, main_cost, loops}
use Rattle.safl_term.specs.Program.{Program}
use Rattle.safl_term.specs.Readiness.{back_word}
use Rattle.safl_calls.specs.Machine.{State, Event, fire}
use Rattle.safl_core.specs.Listing.{busy}
use Rattle.safl_core.specs.Picking.{IsPicked}
use Rattle.safl_core.specs.Shown.{Shown, state}

-- This many turns lead from a state and a number to another state and number. At most this many units are busy in any state on the
-- way, the first and the last included. Each turn fires the enabled event that the next number picks.
pub data Walked (C : Program) (args : List Word) (from : State) (seed : ℕ) : ℕ → State → ℕ → ℕ → Type 0 where
  start : Walked C args from seed 0 from seed (busy C from)
  turn : {n x units : ℕ} {s : State} {e : Event} → Walked C args from seed n s x units → IsPicked C args s (number_after x) e
      → Walked C args from seed (n + 1) (fire C args s e) (number_after x) (max units (busy C (fire C args s e)))

-- a walk of `steps` turns, or of fewer if main returned before
pub record IsWalk (m : Shown) (seed steps : ℕ) (n : Shown) (units : ℕ) : Type 0 where
  pub program : n.checked ≡ m.checked
  pub args : n.args ≡ m.args
  pub turns : ℕ
  pub number : ℕ
  pub walked : Walked m.program m.args (state m) seed turns (state n) number units
  pub events : n.events ≡ m.events + turns
  pub within : turns ≤ steps
  pub ends : (turns ≡ steps) ⊎ IsSome (back_word ((state n).site 0))

-- main gives no value within this many events
abbrev pub IsShort : Shown → ℕ → Type 0
IsShort m events = (v : Word) (d : Main m.program m.args v) → events + 2 * loops m.program d < 3 * main_cost m.program m.args d
