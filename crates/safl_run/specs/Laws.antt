-- The laws of calls.
use Rattle.std.specs.Prelude.{◌≡◌, ℕ, List, length, Option}
use Rattle.safl_word.specs.Words.{Word, AreWords}
use Rattle.safl_net.specs.Laws.{FitWidths}
use Rattle.safl_net.specs.Netlist.{Netlist}
use Rattle.safl_net.specs.Rules.{IsNetlist}
use Rattle.safl_net.specs.Valuations.{Valuation, IsAcyclic, reset_state}
use Rattle.safl_net.specs.Whole.{IsWhole}
use Rattle.safl_net.specs.Arguments.{AreArguments}
use Rattle.safl_sim.specs.Outcomes.{IsCallRun, IsOnlyOutcome}
use Rattle.safl_sim.specs.declared.done.Done.{Done}
use Rattle.safl_run.specs.Calls.{Answers}

-- a whole net without loops has at most one call of this many cycles, with these arguments and from this state
abbrev pub CallsAreOne : Type 0
CallsAreOne =
    (n : Netlist) → IsNetlist n → IsWhole n → IsAcyclic n → (state : ℕ → ℕ) (args : List Word) (vs ws : List Valuation)
    → IsCallRun n state args vs → IsCallRun n state args ws → length ws ≡ length vs → ws ≡ vs

-- A whole net without loops answers every call with words of the inputs' widths, from every state of the right widths. The state
-- after the call has the right widths too.
abbrev pub AnswersExist : Type 0
AnswersExist =
    (n : Netlist) → IsNetlist n → IsWhole n → IsAcyclic n → (limit : ℕ) (state : ℕ → ℕ) → FitWidths n state → (args : List Word) → AreWords args → AreArguments n args
    → (answer : Option Done) × (after : ℕ → ℕ) × Answers n limit state args answer after × FitWidths n after

-- a whole net without loops has at most one answer to a call
abbrev pub AnswersOnce : Type 0
AnswersOnce =
    (n : Netlist) → IsNetlist n → IsWhole n → IsAcyclic n → (limit : ℕ) (state : ℕ → ℕ) (args : List Word) (a b : Option Done) (x y : ℕ → ℕ)
    → Answers n limit state args a x → Answers n limit state args b y → a ≡ b

-- the answer from reset is what the only run shows
abbrev pub AnswersAreOutcomes : Type 0
AnswersAreOutcomes =
    (n : Netlist) → IsNetlist n → IsWhole n → IsAcyclic n → (args : List Word) (limit : ℕ) (answer : Option Done) (after : ℕ → ℕ)
    → Answers n limit (reset_state n) args answer after → IsOnlyOutcome n args limit answer
