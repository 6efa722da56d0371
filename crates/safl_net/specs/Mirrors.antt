-- When a net mirrors another: it has all its signals other than temporary wires, and all their numbers.
use Rattle.std.specs.Prelude.{◌≡◌, ℕ, List, [], ◌∷◌, ◌++◌, map, length, Some, true, false, cond, slice_get, slice_index}
use Rattle.std.specs.List.{flat_map}
use Rattle.safl_net.specs.Netlist.{Netlist, Signal, Kind, Input, Reg, Wire, Cell, width_of}
use Rattle.safl_net.specs.Names.{is_temp}
use Rattle.safl_net.specs.Making.{kind_at, name_at}
use Rattle.safl_net.specs.Valuations.{Valuation, Fits, read, read_next, read_output}
use Rattle.safl_net.specs.Arranged.{IsInput, IsRegister, IsWire, Each}

-- ---- inputs, registers, named wires and outputs

-- a name and a width
abbrev pub Line : Type 0
Line = List ℕ × ℕ

abbrev pub input_line : Signal → Kind → List Line
input_line g Input = (g.name, g.width) ∷ []
input_line g (Reg init next) = []
input_line g (Wire cell) = []

abbrev pub register_line : Signal → Kind → List (Line × ℕ)
register_line g Input = []
register_line g (Reg init next) = ((g.name, g.width), init) ∷ []
register_line g (Wire cell) = []

abbrev pub wire_line : Signal → Kind → List Line
wire_line g Input = []
wire_line g (Reg init next) = []
wire_line g (Wire cell) = cond (is_temp g.name) [] ((g.name, g.width) ∷ [])

-- the inputs; the registers with their numbers at reset; and the wires that are not temporary; each in order
abbrev pub inputs_in : Netlist → List Line
inputs_in n = flat_map (λ g. input_line g g.kind) n.signals

abbrev pub registers_in : Netlist → List (Line × ℕ)
registers_in n = flat_map (λ g. register_line g g.kind) n.signals

abbrev pub wires_in : Netlist → List Line
wires_in n = flat_map (λ g. wire_line g g.kind) n.signals

abbrev pub outputs_in : Netlist → List Line
outputs_in n = map (λ o. (o.0, width_of n o.1)) n.outputs

-- The cell d of m has the operation and the number of operands of the cell c of n. Operands that are not temporary are the same.
pub record KeepsCell (n m : Netlist) (c d : Cell) : Type 0 where
  pub op : d.op ≡ c.op
  pub count : length d.operands ≡ length c.operands
  pub operands : (i s t : ℕ) → slice_get c.operands i ≡ Some s → slice_get d.operands i ≡ Some t → is_temp (name_at n s) ≡ false → name_at m t ≡ name_at n s

-- the wire with this name is in m, with a cell that keeps that of n
pub record KeepsWire (n m : Netlist) (name : List ℕ) (c : Cell) : Type 0 where
  pub number : ℕ
  pub cell : Cell
  pub named : name_at m number ≡ name
  pub wire : kind_at m number ≡ Wire (Some cell)
  pub keeps : KeepsCell n m c cell

-- m has the inputs, registers, named wires and outputs of n, with their widths, numbers at reset and order
pub record Alike (n m : Netlist) : Type 0 where
  pub inputs : inputs_in m ≡ inputs_in n
  pub registers : registers_in m ≡ registers_in n
  pub wires : wires_in m ≡ wires_in n
  pub outputs : outputs_in m ≡ outputs_in n
  pub cells : (s : ℕ) (c : Cell) → kind_at n s ≡ Wire (Some c) → is_temp (name_at n s) ≡ false → KeepsWire n m (name_at n s) c

-- ---- their numbers

-- in these cycles of n and m all signals but temporary wires have the same number, now and after the cycle
pub record ShowsCycle (n m : Netlist) (v w : Valuation) : Type 0 where
  pub now : (name : List ℕ) → is_temp name ≡ false → read m w name ≡ read n v name
  pub next : (name : List ℕ) → is_temp name ≡ false → read_next m w name ≡ read_next n v name
  pub outputs : (name : List ℕ) → read_output m w name ≡ read_output n v name

-- the valuation fits the state that it shows itself
abbrev pub IsCycle : Netlist → Valuation → Type 0
IsCycle n v = Fits n (slice_index v) v

-- each cycle of m, from any state and with any inputs, shows some cycle of n
abbrev pub Mirrors : Netlist → Netlist → Type 0
Mirrors n m = (w : Valuation) → IsCycle m w → (v : Valuation) × IsCycle n v × ShowsCycle n m v w

-- ---- the order of signals

abbrev pub IsNamed : Signal → Type 0
IsNamed g = IsWire g × (is_temp g.name ≡ false)

abbrev pub IsTemp : Signal → Type 0
IsTemp g = IsWire g × (is_temp g.name ≡ true)

-- the inputs come first, then the registers, then the named wires, then the temporary ones
pub record IsLaidOut (n : Netlist) : Type 0 where
  pub inputs : List Signal
  pub registers : List Signal
  pub named : List Signal
  pub temporary : List Signal
  pub joined : n.signals ≡ inputs ++ (registers ++ (named ++ temporary))
  pub are_inputs : Each IsInput inputs
  pub are_registers : Each IsRegister registers
  pub are_named : Each IsNamed named
  pub are_temporary : Each IsTemp temporary
