-- Tables with the literals of each signal.
use Rattle.std.specs.Prelude.{◌≡◌, ℕ, zero, suc, ◌+◌, ◌*◌, List, map, [], ◌∷◌, length, Option, Some, None, Bool, cond, slice_get}
use Rattle.safl_word.specs.Words.{Word}
use Rattle.safl_word.specs.Lists.{summed}
use Rattle.safl_net.specs.Netlist.{Netlist, Kind, Input, Reg, Wire, Cell, width_of, is_input, is_register, is_wire}
use Rattle.safl_net.specs.Valuations.{cell_word}
use Rattle.safl_net.specs.Rules.{CellFits}
use Rattle.safl_net.specs.Widths.{op_width}
use Rattle.safl_net.specs.declared.cell.Op.{Op}
use Rattle.safl_bits.specs.Results.{word}
use Rattle.safl_net.specs.declared.cell.SigKind.{SigKind}
use Rattle.safl_net.specs.declared.cell.SigKind.TheVariants as sorts
use Rattle.safl_net.specs.Making.{kind_at, signal_widths}
use Rattle.safl_aiger.specs.declared.literal.Lit.{Lit}
use Rattle.safl_aiger.specs.Literals.{Assignment, shown}
use Rattle.safl_bits.specs.Gates.{Gates, AreLiterals, HasRoom, Grows, Holds}
use Rattle.safl_aig.specs.declared.table.Pins.{Pins}
use Rattle.safl_aig.specs.Weights.{op_weight}

abbrev pub lits_in : Option Pins → List Lit
lits_in None = []
lits_in (Some p) = p.bits.items

-- the literals of a signal
abbrev pub lits_at : List Pins → ℕ → List Lit
lits_at table s = lits_in (slice_get table s)

-- the signal has a literal for each bit, and the graph has all their variables
pub record Ready (n : Netlist) (g : Gates) (table : List Pins) (s : ℕ) : Type 0 where
  pub long : length (lits_at table s) ≡ width_of n s
  pub fits : AreLiterals g (lits_at table s)

-- the literals of the signal show its number
abbrev pub Agrees : Assignment → (ℕ → ℕ) → List Pins → ℕ → Type 0
Agrees m f table s = shown m (lits_at table s) ≡ f s

-- the literals of this many variables, from this number on
abbrev pub variable_lits : ℕ → ℕ → List Lit
variable_lits first zero = []
variable_lits first (suc k) = record { 0 = 2 * first } ∷ variable_lits (suc first) k

-- the width of a signal if it is of a kind, else 0
abbrev pub width_if : (Kind → Bool) → Netlist → ℕ → ℕ
width_if test n s = cond (test (kind_at n s)) (width_of n s) 0

abbrev pub bits_before : (Kind → Bool) → Netlist → ℕ → ℕ
bits_before test n s = summed (width_if test n) s

abbrev pub input_count : Netlist → ℕ
input_count n = bits_before is_input n (length n.signals)

abbrev pub latch_count : Netlist → ℕ
latch_count n = bits_before is_register n (length n.signals)

-- the variable of the first AND
abbrev pub first_and : Netlist → ℕ
first_and n = 1 + input_count n + latch_count n

-- the literals of a signal's bits. The variables of inputs come first, then those of registers; a wire has none yet
abbrev pub kind_lits : Netlist → ℕ → Kind → List Lit
kind_lits n s Input = variable_lits (1 + bits_before is_input n s) (width_of n s)
kind_lits n s (Reg init next) = variable_lits (1 + input_count n + bits_before is_register n s) (width_of n s)
kind_lits n s (Wire cell) = []

abbrev pub source_lits : Netlist → ℕ → List Lit
source_lits n s = kind_lits n s (kind_at n s)

-- whether a signal is of this kind
abbrev pub kind_test : SigKind → Kind → Bool
kind_test sorts.Input k = is_input k
kind_test sorts.Reg k = is_register k
kind_test sorts.Wire k = is_wire k

-- the operands of a cell have their literals
abbrev pub AreReady : Netlist → Gates → List Pins → Cell → Type 0
AreReady n g table c = (k t : ℕ) → slice_get c.operands k ≡ Some t → Ready n g table t

abbrev pub word_of : Netlist → (ℕ → ℕ) → ℕ → Word
word_of n f t = record { width = width_of n t; bits = f t }

-- the literals show the cell's word, whatever numbers its operands show
pub record CellMade (n : Netlist) (g : Gates) (table : List Pins) (c : Cell) (r : List Lit) : Type 0 where
  pub fits : AreLiterals g r
  pub long : (w : ℕ) → CellFits n w c → length r ≡ w
  pub value : (m : Assignment) (f : ℕ → ℕ) → Holds g m → ((k t : ℕ) → slice_get c.operands k ≡ Some t → Agrees m f table t)
      → shown m r ≡ (cell_word c.op (map (word_of n f) c.operands)).bits

-- The graph has room for what a cell may take, and a cell takes no more than that.
abbrev pub RoomFor : Netlist → Gates → Cell → Type 0
RoomFor n g c = (w : ℕ) × CellFits n w c × HasRoom g (16 * op_weight c.op w (signal_widths n c.operands))

abbrev pub GrowsFor : Netlist → Gates → Gates → Cell → Type 0
GrowsFor n old new c = (w : ℕ) → CellFits n w c → Grows old new (16 * op_weight c.op w (signal_widths n c.operands))

-- the literals show the result of an operation on words
pub record OpMade (op : Op) (gs : List (List Lit)) (g : Gates) (r : List Lit) : Type 0 where
  pub fits : AreLiterals g r
  pub long : op_width op (map length gs) ≡ Some (length r)
  pub value : (m : Assignment) → Holds g m → shown m r ≡ (cell_word op (map (word m) gs)).bits

abbrev pub MayDo : Op → Gates → List ℕ → Type 0
MayDo op g ws = (w : ℕ) × (op_width op ws ≡ Some w) × HasRoom g (16 * op_weight op w ws)

abbrev pub GrowsBy : Op → Gates → Gates → List ℕ → Type 0
GrowsBy op old new ws = (w : ℕ) → op_width op ws ≡ Some w → Grows old new (16 * op_weight op w ws)
