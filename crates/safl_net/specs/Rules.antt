-- The rules that every netlist keeps.
use Rattle.std.specs.Prelude.{◌≡◌, ℕ, ◌<◌, ◌≤◌, ◌^◌, List, length, true, Some, None, All, slice_get}
use Rattle.safl_word.specs.Limits.{width_max}
use Rattle.safl_net.specs.Netlist.{Netlist, Signal, Kind, Reg, Wire, Cell, width_of}
use Rattle.safl_net.specs.Names.{is_good}
use Rattle.safl_net.specs.Widths.{op_width, HasWord}
use Rattle.safl_net.specs.Making.{signal_widths}

-- the operands of the cell are signals of the net, and its result has this width
pub record CellFits (n : Netlist) (width : ℕ) (c : Cell) : Type 0 where
  pub known : All (λ s. s < length n.signals) c.operands
  pub gives : op_width c.op (signal_widths n c.operands) ≡ Some width
  pub word : HasWord c.op

-- the reset number fits the width; the next signal is one of the net and has the width; and the cell has the width
abbrev pub KindFits : Netlist → ℕ → Kind → Type 0
KindFits n width (Reg init None) = init < 2 ^ width
KindFits n width (Reg init (Some m)) = (init < 2 ^ width) × (m < length n.signals) × (width_of n m ≡ width)
KindFits n width (Wire (Some c)) = CellFits n width c
KindFits n width _ = Unit {0}

pub record SignalFits (n : Netlist) (g : Signal) : Type 0 where
  pub good : is_good g.name ≡ true
  pub some : 1 ≤ g.width
  pub most : g.width ≤ width_max
  pub kind : KindFits n g.width g.kind

-- names are good and all different, and signals and outputs keep the rules
pub record IsNetlist (n : Netlist) : Type 0 where
  pub few : length n.signals < 2 ^ 32
  pub few_outputs : length n.outputs < 2 ^ 32
  pub signals : (s : ℕ) (g : Signal) → slice_get n.signals s ≡ Some g → SignalFits n g
  pub outputs : (i : ℕ) (o : List ℕ × ℕ) → slice_get n.outputs i ≡ Some o → (is_good o.0 ≡ true) × (o.1 < length n.signals)
  pub apart : (s t : ℕ) (g h : Signal) → slice_get n.signals s ≡ Some g → slice_get n.signals t ≡ Some h → g.name ≡ h.name → s ≡ t
  pub outputs_apart : (i j : ℕ) (o p : List ℕ × ℕ) → slice_get n.outputs i ≡ Some o → slice_get n.outputs j ≡ Some p → o.0 ≡ p.0 → i ≡ j
  pub between : (s i : ℕ) (g : Signal) (o : List ℕ × ℕ) → slice_get n.signals s ≡ Some g → slice_get n.outputs i ≡ Some o → ¬ (g.name ≡ o.0)
