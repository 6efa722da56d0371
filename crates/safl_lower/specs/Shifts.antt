-- Shifts, and which signals may be the amount of a cell that shifts.
use Rattle.std.specs.Prelude.{◌≡◌, ℕ, ◌≤◌, ◌⊎◌, [], ◌∷◌}
use Rattle.safl_word.specs.Limits.{width_max}
use Rattle.safl_word.specs.declared.primitive.Primitive.{Primitive}
use Rattle.safl_word.specs.declared.primitive.Primitive.TheVariants.{Shl, Shr}
use Rattle.safl_net.specs.declared.cell.Sig.{Sig}
use Rattle.safl_net.specs.Netlist.{Netlist}
use Rattle.safl_lower.specs.Sources.{IsSource}
use Rattle.safl_lower.specs.Heights.{IsGateOf}

abbrev pub IsShift : Primitive → Type 0
IsShift p = (p ≡ Shl) ⊎ (p ≡ Shr)

-- the greatest width of the amount in a shift's cell
abbrev pub widest_amount : ℕ
widest_amount = 32

-- the amounts are equal, or both shift every bit of a word out
abbrev pub ShiftAlike : ℕ → ℕ → Type 0
ShiftAlike a b = (a ≡ b) ⊎ ((width_max ≤ a) × (width_max ≤ b))

-- the signal may be the amount of a shift's cell
pub record IsAmount (n : Netlist) (s : Sig) : Type 0 where
  pub width : ℕ
  pub source : IsSource n s width
  pub some : 1 ≤ width
  pub narrow : width ≤ widest_amount

-- the cell of s shifts a, by an amount that it may have
pub record ShiftsIt (n : Netlist) (s a : Sig) : Type 0 where
  pub amount : Sig
  pub reads : IsGateOf n s (a ∷ amount ∷ [])
  pub narrow : IsAmount n amount
