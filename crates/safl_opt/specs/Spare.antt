-- What `lean` requires of each temporary wire.
use Rattle.std.specs.Prelude.{◌≡◌, ◌≢◌, ℕ, List, [], ◌∷◌, Some, false, ◌⊎◌, slice_get}
use Rattle.safl_net.specs.declared.cell.Op.TheVariants.{Copy, Mux}
use Rattle.safl_net.specs.Netlist.{Netlist, Reg, Wire, Cell}
use Rattle.safl_net.specs.Making.{kind_at}
use Rattle.safl_order.specs.Order.{ReadsSignal}
use Rattle.safl_opt.specs.Lean.{is_const, is_constant, are_constants, HasCell}

-- the condition of a choice is no constant, and the choice is between two signals
abbrev pub IsChoice : Netlist → List ℕ → Type 0
IsChoice n xs = (u a b : ℕ) → xs ≡ u ∷ a ∷ b ∷ [] → (is_constant n u ≡ false) × (a ≢ b)

-- the cell is no copy, and cannot be folded
pub record IsNeeded (n : Netlist) (c : Cell) : Type 0 where
  pub folded : is_const c.op ≡ false → are_constants n c.operands ≡ false
  pub no_copy : c.op ≢ Copy
  pub chooses : c.op ≡ Mux → IsChoice n c.operands

-- no other temporary has the same cell
abbrev pub IsAlone : Netlist → ℕ → Cell → Type 0
IsAlone n s c = (t : ℕ) → HasCell n t c → t ≡ s

-- the signal is a register with this one as its next signal, or a wire with it as an operand
abbrev pub IsReader : Netlist → ℕ → ℕ → Type 0
IsReader n a s = ((init : ℕ) × (kind_at n a ≡ Reg init (Some s))) ⊎ ReadsSignal n a s

-- an output shows the signal
pub record IsShown (n : Netlist) (s : ℕ) : Type 0 where
  pub index : ℕ
  pub output : List ℕ × ℕ
  pub there : slice_get n.outputs index ≡ Some output
  pub is : output.1 ≡ s

-- an output shows the signal, or another signal reads it
abbrev pub HasReader : Netlist → ℕ → Type 0
HasReader n s = IsShown n s ⊎ ((a : ℕ) × IsReader n a s)

-- the wire could not be spared
pub record IsWanted (n : Netlist) (s : ℕ) : Type 0 where
  pub needed : (c : Cell) → kind_at n s ≡ Wire (Some c) → IsNeeded n c
  pub alone : (c : Cell) → kind_at n s ≡ Wire (Some c) → IsAlone n s c
  pub is_read : HasReader n s
