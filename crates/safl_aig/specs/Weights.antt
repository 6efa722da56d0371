-- The weight of a net.
use Rattle.std.specs.Prelude.{◌≡◌, ℕ, ◌≢◌, ◌+◌, ◌<◌, List, ◌∷◌, length, Some}
use Rattle.safl_word.specs.Lists.{summed}
use Rattle.safl_net.specs.declared.cell.Op.{Op}
use Rattle.safl_net.specs.declared.cell.Op.TheVariants.{Apply}
use Rattle.safl_net.specs.Netlist.{Netlist, Kind, Wire, width_of}
use Rattle.safl_net.specs.Making.{kind_at, signal_widths}
use Rattle.safl_net.specs.Valuations.{reset_state}
use Rattle.safl_bits.specs.Weights.{greatest, apply_weight}
use Rattle.safl_aig.specs.Bits.{output_at}

-- the weight of an operation, by the width of its result and those of its operands
abbrev pub op_weight : Op → ℕ → List ℕ → ℕ
op_weight (Apply p) w ws = apply_weight p w ws
op_weight _ w ws = greatest (w ∷ ws)

abbrev pub kind_weight : Netlist → ℕ → Kind → ℕ
kind_weight n w (Wire (Some c)) = op_weight c.op w (signal_widths n c.operands)
kind_weight n w _ = w

abbrev pub signal_weight : Netlist → ℕ → ℕ
signal_weight n s = kind_weight n (width_of n s) (kind_at n s)

abbrev pub weight : Netlist → ℕ
weight n = summed (signal_weight n) (length n.signals) + summed (λ (i : ℕ). width_of n (output_at n i)) (length n.outputs)

-- the greatest weight of a net that is converted
abbrev pub most_weight : ℕ
most_weight = 1000000

abbrev pub AllZero : Netlist → Type 0
AllZero n = (s : ℕ) → reset_state n s ≡ 0

-- the register's word at reset is not 0, and that of every register before it is
pub record IsLeastNonzero (n : Netlist) (s : ℕ) : Type 0 where
  pub known : s < length n.signals
  pub nonzero : reset_state n s ≢ 0
  pub least : (t : ℕ) → t < s → reset_state n t ≡ 0

-- ---- parts by name

abbrev pub output_weight : Netlist → ℕ → ℕ
output_weight n i = width_of n (output_at n i)
