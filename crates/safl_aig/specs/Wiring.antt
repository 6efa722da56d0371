-- The literals of all signals.
use Rattle.std.specs.Prelude.{◌≡◌, ℕ, ◌*◌, ◌<◌, ◌≤◌, List, length, Some, slice_get, slice_index}
use Rattle.safl_net.specs.Netlist.{Netlist, width_of}
use Rattle.safl_net.specs.Valuations.{Valuation, Fits}
use Rattle.safl_order.specs.Order.{operands_of, IsWire}
use Rattle.safl_aiger.specs.declared.literal.Lit.{Lit}
use Rattle.safl_aiger.specs.Literals.{Assignment, shown}
use Rattle.safl_bits.specs.Gates.{Gates, AreLiterals, Holds}
use Rattle.safl_aig.specs.declared.table.Pins.{Pins}
use Rattle.safl_aig.specs.Weights.{weight}
use Rattle.safl_aig.specs.Tables.{lits_at, Ready, Agrees, source_lits, first_and}

abbrev pub OperandsReady : Netlist → Gates → List Pins → ℕ → Type 0
OperandsReady n g table s = (k t : ℕ) → slice_get (operands_of n s) k ≡ Some t → Ready n g table t

-- the literals of a wire's operands show their numbers
abbrev pub OperandsAgree : Netlist → Assignment → Valuation → List Pins → ℕ → Type 0
OperandsAgree n m v table s = (k t : ℕ) → slice_get (operands_of n s) k ≡ Some t → Agrees m (slice_index v) table t

-- the literals of a wire show its number if those of its operands do
pub record WireMade (n : Netlist) (g : Gates) (table : List Pins) (s : ℕ) (r : List Lit) : Type 0 where
  pub fits : AreLiterals g r
  pub long : length r ≡ width_of n s
  pub value : (m : Assignment) (state : ℕ → ℕ) (v : Valuation) → Holds g m → Fits n state v → OperandsAgree n m v table s → shown m r ≡ slice_index v s

-- the literals of inputs and registers show their numbers
abbrev pub SourcesAgree : Netlist → Assignment → Valuation → List Pins → Type 0
SourcesAgree n m v table = (s : ℕ) → s < length n.signals → ¬ (IsWire n s) → Agrees m (slice_index v) table s

-- Each signal has its literals: inputs and registers their variables. The literals of a wire show its number if those of inputs
-- and registers show theirs.
pub record Connected (n : Netlist) (g : Gates) (table : List Pins) : Type 0 where
  pub first : g.first ≡ first_and n
  pub few : length g.ands ≤ 16 * weight n
  pub long : length table ≡ length n.signals
  pub ready : (s : ℕ) → s < length n.signals → Ready n g table s
  pub sources : (s : ℕ) → s < length n.signals → ¬ (IsWire n s) → lits_at table s ≡ source_lits n s
  pub agrees : (m : Assignment) (state : ℕ → ℕ) (v : Valuation) → Holds g m → Fits n state v → SourcesAgree n m v table
      → (s : ℕ) → s < length n.signals → Agrees m (slice_index v) table s
