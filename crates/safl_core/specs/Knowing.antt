-- What partial evaluation has to know of the units.
use Rattle.std.specs.Prelude.{◌≡◌, ℕ, ◌+◌, ◌<◌, ◌≤◌, List, Option, Some, None, get_or}
use Rattle.safl_word.specs.Words.{Word, widths}
use Rattle.safl_term.specs.Program.{Program, arity}
use Rattle.safl_term.specs.Readiness.{Answer, NotYet}
use Rattle.safl_term.specs.Sizes.{nodes}
use Rattle.safl_calls.specs.Machine as machine
use Rattle.safl_calls.specs.Machine.{State, back, says, asked_as}
use Rattle.safl_core.specs.declared.mode.Mode.{Mode}
use Rattle.safl_evaluate.specs.declared.stage.Stage.{Stage}
use Rattle.safl_core.specs.Modes.{unit_at}
use Rattle.safl_evaluate.specs.Stages.{back_at}

-- what the body of unit u comes to, and the words with which it wants its sites, are noted as they are
pub record IsKnown (C : Program) (s : State) (answers : List Answer) (asks : List (Option (List Word))) (u : ℕ) : Type 0 where
  pub outcome : get_or answers u NotYet ≡ says C s u
  pub wants : (k : ℕ) → 0 < k → k ≤ C.sites → C.unit (C.caller k) ≡ u → get_or asks k None ≡ asked_as C (back s) (s.unit u) (C.caller k) k

-- each returned word has the width of the called function
abbrev pub BackFits : Program → List Stage → Type 0
BackFits C sites = (k : ℕ) (v : Word) → back_at sites k ≡ Some v → v.width ≡ C.result (C.callee k)

-- unit u is idle, delivers, or runs a function of its group, with words of the widths of that function's parameters
abbrev pub RunsMember : Program → List Mode → ℕ → Type 0
RunsMember C modes u = (f k : ℕ) (ws : List Word) → unit_at modes u ≡ machine.Runs f k ws → (C.unit f ≡ u) × (f < C.functions) × (widths ws ≡ C.params f)

-- there is room for the slots of each body
abbrev pub HasRoom : Program → ℕ → Type 0
HasRoom C room = (f : ℕ) → f < C.functions → arity C f + nodes (C.body f) ≤ room
