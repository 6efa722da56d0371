-- The cycles of a call, one after another.
use Rattle.std.specs.Prelude.{◌≡◌, ℕ, List, [], ◌∷◌, ◌++◌, length, Option, Some, None, slice_get, slice_index, codes}
use Rattle.safl_word.specs.Words.{Word}
use Rattle.safl_net.specs.Netlist.{Netlist}
use Rattle.safl_net.specs.Valuations.{Valuation, read_output, next_state}
use Rattle.safl_net.specs.Arguments.{AreArguments}
use Rattle.safl_sim.specs.Outcomes.{IsCallRun, output_word}
use Rattle.safl_sim.specs.Simulation.{Simulation}
use Rattle.safl_sim.specs.Ticks.{state_after}
use Rattle.safl_sim.specs.Words.{input_words, bit_word}
use Rattle.safl_sim.specs.declared.done.Done.{Done}
use Rattle.safl_run.specs.declared.harness.Harness.{Harness}
use Rattle.safl_run.specs.Calls.{Answers}
use Rattle.safl_run.specs.Runners.{IsHarness}

-- the harness has the words of a call with these arguments
pub record IsCalled (n : Netlist) (args : List Word) (h : Harness) : Type 0 where
  pub is : IsHarness n h
  pub arguments : AreArguments n args
  pub first : h.room.first.items ≡ input_words n.signals (bit_word 1) args

-- this is the answer to a call with the words of the harness
abbrev pub IsAnswered : Simulation → Simulation → Harness → ℕ → Option Done → Type 0
IsAnswered old new harness limit answer =
    (args : List Word) → IsCalled old.net args harness → Answers old.net limit (slice_index old.state) args answer (slice_index new.state)

-- cycles of a call so far, with `done` at 0 in all of them, and the state after them
pub record IsGoing (n : Netlist) (state : ℕ → ℕ) (args : List Word) (vs : List Valuation) (now : ℕ → ℕ) : Type 0 where
  pub call : IsCallRun n state args vs
  pub not_done : (c : ℕ) (v : Valuation) → slice_get vs c ≡ Some v → read_output n v (codes "done") ≡ 0
  pub after : (s : ℕ) → now s ≡ state_after n state vs s

-- one more cycle of the call, with `done` at 1
pub record Ends (n : Netlist) (state : ℕ → ℕ) (args : List Word) (frames : List Valuation) (new : Simulation) (d : Done) : Type 0 where
  pub call : IsCallRun n state args (frames ++ new.values ∷ [])
  pub cycle : length frames ≡ d.cycle
  pub done : read_output n new.values (codes "done") ≡ 1
  pub result : d.result ≡ output_word n new.values (codes "result")
  pub leads : (s : ℕ) → slice_index new.state s ≡ next_state n new.values s

-- one more cycle of the call, with `done` at 0 or 1
abbrev pub Goes : Netlist → (ℕ → ℕ) → List Word → List Valuation → Simulation → Option Done → Type 0
Goes n state args frames new None = IsGoing n state args (frames ++ new.values ∷ []) (slice_index new.state)
Goes n state args frames new (Some d) = Ends n state args frames new d

-- if a call with the words of the harness has had this many cycles, with `done` at 0 in all of them, it has one more
abbrev pub GoesOn : Simulation → Simulation → Harness → ℕ → Option Done → Type 0
GoesOn old new harness cycle answer =
    (state : ℕ → ℕ) (args : List Word) (frames : List Valuation) → IsCalled old.net args harness → length frames ≡ cycle
    → IsGoing old.net state args frames (slice_index old.state) → Goes old.net state args frames new answer
