-- The meaning of a bit-level circuit: a set of equations for each cycle.
use Rattle.std.specs.Prelude.{◌≡◌, ℕ, zero, suc, ◌+◌, List, [], ◌∷◌, replicate, Bool, false, ◌&&◌, Some, slice_get}
use Rattle.safl_aiger.specs.declared.literal.Lit.{Lit}
use Rattle.safl_aiger.specs.Literals.{Assignment, on, values}
use Rattle.safl_aiger.specs.Circuits.{Circuit, latches, base}

-- Variable 0 is false, and each AND is the conjunction of its operands. The first AND has the variable `first`.
pub record Wired (first : ℕ) (ands : List (Lit × Lit)) (m : Assignment) : Type 0 where
  pub bottom : m 0 ≡ false
  pub each : (k : ℕ) (p : Lit × Lit) → slice_get ands k ≡ Some p → m (first + k) ≡ (on m p.0 && on m p.1)

-- the values of this many variables, from this number on
abbrev pub variable_bits : Assignment → ℕ → ℕ → List Bool
variable_bits m first zero = []
variable_bits m first (suc k) = m first ∷ variable_bits m (suc first) k

abbrev pub latch_bits : Circuit → Assignment → List Bool
latch_bits a m = variable_bits m (1 + a.inputs) (latches a)

-- the values fit the state of the latches, the inputs and the ANDs
pub record FitsCircuit (a : Circuit) (state given : List Bool) (m : Assignment) : Type 0 where
  pub inputs : variable_bits m 1 a.inputs ≡ given
  pub latches : latch_bits a m ≡ state
  pub wired : Wired (base a) a.ands m

-- the cycles of a run from a state, one for each list of inputs. The next values of the latches are those of their next literals
abbrev pub RunsFrom : Circuit → List Bool → List (List Bool) → List Assignment → Type 0
RunsFrom a state [] [] = Unit {0}
RunsFrom a state (x ∷ xs) (m ∷ ms) = FitsCircuit a state x m × RunsFrom a (values m a.nexts) xs ms
RunsFrom a state _ _ = ⊥

-- at the beginning all latches are false
abbrev pub RunsFromReset : Circuit → List (List Bool) → List Assignment → Type 0
RunsFromReset a xs ms = RunsFrom a (replicate (latches a) false) xs ms

-- this many latches, all false
abbrev pub all_false : ℕ → List Bool
all_false n = replicate n false

-- ---- parts by name

abbrev pub input_bits : Circuit → Assignment → List Bool
input_bits a m = variable_bits m 1 a.inputs

abbrev pub next_bits : Circuit → Assignment → List Bool
next_bits a m = values m a.nexts
