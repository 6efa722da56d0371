-- A cycle of a simulator.
use Rattle.std.specs.Prelude.{◌≡◌, ℕ, List, length}
use Rattle.safl_word.specs.Words.{Word}
use Rattle.safl_order.specs.Order.{Order}
use Rattle.safl_sim.specs.declared.plan.Plan.{Plan}
use Rattle.safl_sim.specs.Places.{AreInputs, HasWords}
use Rattle.safl_sim.specs.Simulation.{Ticks}
use Rattle.safl_sim.specs.States.{placed}
use Rattle.safl_sim.specs.Steps.{KeepsSimulation}

-- what holds of a simulator between two cycles, in terms of its plan
abbrev pub KeepsPlan : Order → Plan → List ℕ → List ℕ → List ℕ → List ℕ → Type 0
KeepsPlan o p marks waiting now shown = KeepsSimulation o p.steps.items p.inputs.items p.registers.items p.starts.items p.readers.items marks waiting now shown

-- the state by signal, given the number of each register
abbrev pub state_of : Order → Plan → List ℕ → List ℕ
state_of o p numbers = placed (length o.net.signals) p.registers.items numbers

-- what holds of a simulator between two cycles, with a number for each register
pub record KeepsStates (o : Order) (p : Plan) (marks waiting numbers shown : List ℕ) : Type 0 where
  pub long : length numbers ≡ length p.registers.items
  pub keeps : KeepsPlan o p marks waiting (state_of o p numbers) shown

-- a simulator goes on by a cycle, and what holds between cycles still holds
pub record Cycles (o : Order) (p : Plan) (given : List Word) (numbers shown marks waiting next after : List ℕ) : Type 0 where
  pub keeps : KeepsStates o p marks waiting next after
  pub ticks : Ticks (record { net = o.net; state = state_of o p numbers; values = shown })
      (record { net = o.net; state = state_of o p next; values = after }) given

-- a simulator goes on by a cycle with these words; and with the words that its inputs have
abbrev pub CyclesWith : Plan → List Word → List ℕ → List ℕ → List ℕ → List ℕ → List ℕ → List ℕ → List ℕ → List ℕ → Type 0
CyclesWith p words numbers next shown after marks marks' waiting waiting' = (o : Order)
    → KeepsStates o p marks waiting numbers shown → AreInputs o.net words → Cycles o p words numbers shown marks' waiting' next after

abbrev pub CyclesAgain : Plan → List ℕ → List ℕ → List ℕ → List ℕ → List ℕ → List ℕ → List ℕ → List ℕ → Type 0
CyclesAgain p numbers next shown after marks marks' waiting waiting' = (o : Order) (words : List Word)
    → KeepsStates o p marks waiting numbers shown → HasWords o.net shown words → Cycles o p words numbers shown marks' waiting' next after
