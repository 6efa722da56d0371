-- Settled nets: no cell reads a wire without a cell, and no cells read one another in a loop.
use Rattle.std.specs.Prelude.{◌≡◌, ℕ, List, [], ◌∷◌, Option, Some, None, slice_get}
use Rattle.safl_net.specs.declared.cell.Sig.{Sig}
use Rattle.safl_net.specs.Netlist.{Netlist, Signal, Kind, Input, Reg, Wire, Cell}
use Rattle.safl_net.specs.Valuations.{IsAcyclic}

-- the signal is an input, a register, or a wire with a cell
abbrev pub IsDriven : Kind → Type 0
IsDriven Input = Unit {0}
IsDriven (Reg init next) = Unit {0}
IsDriven (Wire None) = ⊥
IsDriven (Wire (Some c)) = Unit {0}

abbrev pub IsDrivenIn : Option Signal → Type 0
IsDrivenIn None = ⊥
IsDrivenIn (Some g) = IsDriven g.kind

-- the signal with a number is driven
abbrev pub IsSteady : Netlist → ℕ → Type 0
IsSteady n s = IsDrivenIn (slice_get n.signals s)

abbrev pub AreSteady : Netlist → List Sig → Type 0
AreSteady n [] = Unit {0}
AreSteady n (x ∷ xs) = IsSteady n x.0 × AreSteady n xs

-- cells read only steady signals, and not in a loop
pub record IsSettled (n : Netlist) : Type 0 where
  pub acyclic : IsAcyclic n
  pub reads : (s t i : ℕ) (g : Signal) (c : Cell) → slice_get n.signals s ≡ Some g → g.kind ≡ Wire (Some c) → slice_get c.operands i ≡ Some t → IsSteady n t

-- a settled net stays settled, and its steady signals stay steady
pub record Settles (old new : Netlist) : Type 0 where
  pub settled : IsSettled old → IsSettled new
  pub steady : (s : ℕ) → IsSteady old s → IsSteady new s
