-- Loops, and orders of evaluation.
use Rattle.std.specs.Prelude.{◌≡◌, ℕ, ◌<◌, ◌≤◌, List, [], ◌∷◌, Option, Some, slice_get}
use Rattle.std.specs.Option.{option_map_or}
use Rattle.safl_net.specs.declared.cell.SigKind.{SigKind}
use Rattle.safl_net.specs.Netlist.{Netlist, AllSet, Cell}
use Rattle.safl_net.specs.Making.{kind_at, cell_in, sort_of}

-- the operands of a wire's cell
abbrev pub operands_of : Netlist → ℕ → List ℕ
operands_of n s = option_map_or (λ (c : Cell). c.operands) (cell_in (kind_at n s)) []

abbrev pub IsWire : Netlist → ℕ → Type 0
IsWire n s = sort_of (kind_at n s) ≡ SigKind.Wire

-- a has b as an operand
abbrev pub ReadsSignal : Netlist → ℕ → ℕ → Type 0
ReadsSignal n a b = (i : ℕ) × (slice_get (operands_of n a) i ≡ Some b)

-- each wire of the list has the next one as an operand, and the last one has t
abbrev pub Leads : Netlist → List ℕ → ℕ → Type 0
Leads n [] t = Unit {0}
Leads n (a ∷ []) t = ReadsSignal n a t
Leads n (a ∷ (b ∷ ws)) t = ReadsSignal n a b × Leads n (b ∷ ws) t

-- different wires, each with the next one as an operand, and the last with the first. The first has the least number
pub record IsLoop (n : Netlist) (ws : List ℕ) : Type 0 where
  pub first : ℕ
  pub rest : List ℕ
  pub is : ws ≡ first ∷ rest
  pub leads : Leads n ws first
  pub apart : (i j s : ℕ) → slice_get ws i ≡ Some s → slice_get ws j ≡ Some s → i ≡ j
  pub least : (i s : ℕ) → slice_get ws i ≡ Some s → first ≤ s

-- everything is set, and each wire is in the list once, after those of its operands that are wires
pub record IsOrder (n : Netlist) (ws : List ℕ) : Type 0 where
  pub set : AllSet n
  pub wires : (i s : ℕ) → slice_get ws i ≡ Some s → IsWire n s
  pub all : (s : ℕ) → IsWire n s → (i : ℕ) × (slice_get ws i ≡ Some s)
  pub once : (i j s : ℕ) → slice_get ws i ≡ Some s → slice_get ws j ≡ Some s → i ≡ j
  pub before : (i s k t : ℕ) → slice_get ws i ≡ Some s → slice_get (operands_of n s) k ≡ Some t → IsWire n t → (j : ℕ) × (j < i) × (slice_get ws j ≡ Some t)

-- a net, and its wires in an order of evaluation
pub record Order : Type 0 where
  pub net : Netlist
  pub wires : List ℕ

-- ---- parts by name

abbrev pub operands_in : Option Cell → List ℕ
operands_in o = option_map_or (λ (c : Cell). c.operands) o []
