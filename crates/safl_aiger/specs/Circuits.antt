-- Bit-level circuits as plain values.
use Rattle.std.specs.Prelude.{◌≡◌, ℕ, ◌+◌, ◌*◌, ◌<◌, ◌≤◌, ◌≢◌, ◌^◌, List, map, length, All, Some, slice_get}
use Rattle.safl_word.specs.Limits.{variables_max}
use Rattle.safl_aiger.specs.declared.literal.Lit.{Lit}
use Rattle.safl_aiger.specs.declared.circuit.Name.{Name}
use Rattle.safl_aiger.specs.declared.circuit.Names.{Names}

-- Variables are numbered from 1: inputs, then latches, then ANDs. A latch has its next literal, an AND its two operands.
pub record Circuit : Type 0 where
  pub inputs : ℕ
  pub nexts : List Lit
  pub outputs : List Lit
  pub ands : List (Lit × Lit)
  pub input_names : List (List ℕ)
  pub latch_names : List (List ℕ)
  pub output_names : List (List ℕ)

-- the names as lists of bytes
abbrev pub names_of : List Name → List (List ℕ)
names_of xs = map (λ (n : Name). n.bytes.items) xs

-- the circuit that is made of these parts
abbrev pub circuit_of : List Lit → List Lit → List (Lit × Lit) → Names → Circuit
circuit_of nexts outputs ands names =
    record {
      inputs = length names.inputs.items;
      nexts = nexts;
      outputs = outputs;
      ands = ands;
      input_names = names_of names.inputs.items;
      latch_names = names_of names.latches.items;
      output_names = names_of names.outputs.items;
    }

abbrev pub latches : Circuit → ℕ
latches a = length a.nexts

-- the variable of the first AND
abbrev pub base : Circuit → ℕ
base a = 1 + a.inputs + latches a

-- the number of variables other than variable 0
abbrev pub variables : Circuit → ℕ
variables a = a.inputs + latches a + length a.ands

-- a name of an input, latch or output: it has no line feed, and may be empty
abbrev pub IsLine : List ℕ → Type 0
IsLine name = All (λ c. c ≢ 10) name

-- the operands of each AND have lower literals than the AND itself
abbrev pub AreBelow : ℕ → List (Lit × Lit) → Type 0
AreBelow first ands = (k : ℕ) (p : Lit × Lit) → slice_get ands k ≡ Some p → (p.0.0 < 2 * (first + k)) × (p.1.0 < 2 * (first + k))

pub record IsCircuit (a : Circuit) : Type 0 where
  pub few : variables a < variables_max
  pub nexts : All (λ (l : Lit). l.0 ≤ 2 * variables a + 1) a.nexts
  pub outputs : All (λ (l : Lit). l.0 ≤ 2 * variables a + 1) a.outputs
  pub output_count : length a.outputs < 2 ^ 31
  pub ands : AreBelow (base a) a.ands
  pub input_names : length a.input_names ≡ a.inputs
  pub latch_names : length a.latch_names ≡ latches a
  pub output_names : length a.output_names ≡ length a.outputs
  pub input_lines : All IsLine a.input_names
  pub latch_lines : All IsLine a.latch_names
  pub output_lines : All IsLine a.output_names
