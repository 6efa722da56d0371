-- The laws of runs.
use Rattle.std.specs.Prelude.{◌≡◌, ℕ, ◌≤◌, List, length, Bool}
use Rattle.std.specs.List.{AllByRecursion}
use Rattle.safl_aiger.specs.Literals.{Assignment}
use Rattle.safl_aiger.specs.Circuits.{Circuit, latches, variables, IsCircuit}
use Rattle.safl_aiger.specs.Runs.{FitsCircuit, RunsFromReset}

-- some values fit each state and inputs
abbrev pub SomeFit : Type 0
SomeFit = (a : Circuit) → IsCircuit a → (state given : List Bool) → length state ≡ latches a → length given ≡ a.inputs → (m : Assignment) × FitsCircuit a state given m

-- on the circuit's variables, at most one valuation fits a state and inputs
abbrev pub OneFit : Type 0
OneFit =
    (a : Circuit) → IsCircuit a → (state given : List Bool) (m n : Assignment) → FitsCircuit a state given m → FitsCircuit a state given n → (v : ℕ) → v ≤ variables a → m v ≡ n v

-- each list of inputs has a run
abbrev pub SomeRun : Type 0
SomeRun =
    (a : Circuit) → IsCircuit a → (xs : List (List Bool)) → AllByRecursion (λ x. length x ≡ a.inputs) xs → (ms : List Assignment) × RunsFromReset a xs ms
