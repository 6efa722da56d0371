-- The order of the signals of a net.
use Rattle.std.specs.Prelude.{◌≡◌, ℕ, List, [], ◌∷◌, ◌++◌, Option}
use Rattle.safl_net.specs.Netlist.{Netlist, Signal, Cell, Input, Reg, Wire}

-- the signal is an input; is a register; is a wire
abbrev pub IsInput : Signal → Type 0
IsInput g = g.kind ≡ Input

abbrev pub IsRegister : Signal → Type 0
IsRegister g = (init : ℕ) × (next : Option ℕ) × (g.kind ≡ Reg init next)

abbrev pub IsWire : Signal → Type 0
IsWire g = (cell : Option Cell) × (g.kind ≡ Wire cell)

abbrev pub Each : {X : Type 0} → (X → Type 0) → List X → Type 0
Each P [] = Unit {0}
Each P (x ∷ xs) = P x × Each P xs

-- the inputs come first, then the registers, then the wires
pub record IsInOrder (n : Netlist) : Type 0 where
  pub inputs : List Signal
  pub registers : List Signal
  pub wires : List Signal
  pub joined : n.signals ≡ inputs ++ (registers ++ wires)
  pub are_inputs : Each IsInput inputs
  pub are_registers : Each IsRegister registers
  pub are_wires : Each IsWire wires
