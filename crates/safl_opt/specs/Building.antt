-- The net of the values that are read.
use Rattle.std.specs.Prelude.{◌≡◌, ℕ, ◌+◌, ◌<◌, ◌≤◌, List, map, length, Some, None, Bool, true, false, ◌⊎◌, slice_get}
use Rattle.safl_word.specs.Lists.{bool_at}
use Rattle.safl_net.specs.declared.cell.Sig.{Sig}
use Rattle.safl_net.specs.Netlist.{Netlist, Signal, Kind, Input, Reg, Wire, Cell, width_of, open_kind}
use Rattle.safl_net.specs.Names.{is_temp, temp_name, wires}
use Rattle.safl_net.specs.Widths.{op_width}
use Rattle.safl_net.specs.Making.{kind_at, name_at, with_signal, wired}
use Rattle.safl_order.specs.Order.{IsWire, ReadsSignal}
use Rattle.safl_opt.specs.Lean.{is_numbered}
use Rattle.safl_opt.specs.declared.node.Node.{Node}
use Rattle.safl_opt.specs.declared.fold.Values.{Values}
use Rattle.safl_opt.specs.Nodes.{node_op, node_operands}
use Rattle.safl_opt.specs.Values.{sig_at, value_width}

-- ---- which values are read

-- an output shows the signal, a register has it as its next signal, or a named wire reads it
pub data IsRoot (n : Netlist) (s : ℕ) : Type 0 where
  shown : (i : ℕ) (o : List ℕ × ℕ) → slice_get n.outputs i ≡ Some o → o.1 ≡ s → IsRoot n s
  kept : (r init : ℕ) → kind_at n r ≡ Reg init (Some s) → IsRoot n s
  named : (a : ℕ) → IsWire n a → is_numbered (name_at n a) ≡ false → ReadsSignal n a s → IsRoot n s

-- the values of roots are read, and so are the operands of the nodes of values that are read
pub record AreRead (n : Netlist) (f : Values) (read : List Bool) : Type 0 where
  pub long : length read ≡ length f.signals.items
  pub roots : (s : ℕ) → IsRoot n s → bool_at read (sig_at f.ids.items s) ≡ true
  pub nodes : (j i y : ℕ) (node : Node) → slice_get f.nodes j ≡ Some node → bool_at read (f.kept + j) ≡ true
      → slice_get (node_operands node) i ≡ Some y → bool_at read y ≡ true

-- the value belongs to a root, or is an operand of the node of a value that is read
pub data IsNeeded (n : Netlist) (f : Values) (read : List Bool) (x : ℕ) : Type 0 where
  by_root : (s : ℕ) → IsRoot n s → sig_at f.ids.items s ≡ x → IsNeeded n f read x
  by_node : (j i : ℕ) (node : Node) → slice_get f.nodes j ≡ Some node → bool_at read (f.kept + j) ≡ true → slice_get (node_operands node) i ≡ Some x
      → IsNeeded n f read x

-- only needed values are read
pub record AreNeeded (n : Netlist) (f : Values) (read : List Bool) : Type 0 where
  pub each : (x : ℕ) → bool_at read x ≡ true → IsNeeded n f read x

-- ---- the net

-- the new number of a signal's value
abbrev pub new_number : Values → List Sig → ℕ → ℕ
new_number f made s = sig_at made (sig_at f.ids.items s)

abbrev pub new_cell : Values → List Sig → Cell → Cell
new_cell f made c = record { op = c.op; operands = map (new_number f made) c.operands }

abbrev pub new_kind : Values → List Sig → Kind → Kind
new_kind f made Input = Input
new_kind f made (Reg init None) = Reg init None
new_kind f made (Reg init (Some t)) = Reg init (Some (new_number f made t))
new_kind f made (Wire None) = Wire None
new_kind f made (Wire (Some c)) = Wire (Some (new_cell f made c))

-- the new signal of a kept one
abbrev pub kept_signal : Netlist → Values → List Sig → ℕ → Signal
kept_signal n f made s = record { name = name_at n s; width = width_of n s; kind = new_kind f made (kind_at n s) }

abbrev pub node_cell : List Sig → Node → Cell
node_cell made node = record { op = node_op node; operands = map (sig_at made) (node_operands node) }

-- the signal is a temporary with the cell of the node of value x
pub record IsNodeOf (n : Netlist) (f : Values) (made : List Sig) (x : ℕ) (node : Node) (g : Signal) : Type 0 where
  pub name : is_temp g.name ≡ true
  pub width : g.width ≡ value_width n f.signals.items x
  pub kind : g.kind ≡ Wire (Some (node_cell made node))

-- the signals are the kept ones, and then one for each node that is read
pub record Builds (n : Netlist) (f : Values) (read : List Bool) (made : List Sig) (m : Netlist) : Type 0 where
  pub own : (x : ℕ) → x < f.kept → sig_at made x ≡ x
  pub kept : (x : ℕ) → x < f.kept → slice_get m.signals x ≡ Some (kept_signal n f made (sig_at f.signals.items x))
  pub nodes : (j : ℕ) (node : Node) → slice_get f.nodes j ≡ Some node → bool_at read (f.kept + j) ≡ true
      → (f.kept ≤ sig_at made (f.kept + j)) × ((g : Signal) × (slice_get m.signals (sig_at made (f.kept + j)) ≡ Some g) × IsNodeOf n f made (f.kept + j) node g)
  pub each : (y : ℕ) (g : Signal) → slice_get m.signals y ≡ Some g → f.kept ≤ y
      → (j : ℕ) × (node : Node) × (slice_get f.nodes j ≡ Some node) × (bool_at read (f.kept + j) ≡ true) × (sig_at made (f.kept + j) ≡ y)
  pub once : (i j : ℕ) (a b : Node) → slice_get f.nodes i ≡ Some a → slice_get f.nodes j ≡ Some b → bool_at read (f.kept + i) ≡ true
      → bool_at read (f.kept + j) ≡ true
      → sig_at made (f.kept + i) ≡ sig_at made (f.kept + j) → i ≡ j
  pub outputs : m.outputs ≡ map (λ o. (o.0, new_number f made o.1)) n.outputs

-- ---- setting marks one after another

-- marks that were set stay, and the new ones are exactly those of P
pub record Marks (old new : List Bool) (P : ℕ → Type 0) : Type 0 where
  pub long : length new ≡ length old
  pub stays : (x : ℕ) → bool_at old x ≡ true → bool_at new x ≡ true
  pub sets : (x : ℕ) → P x → bool_at new x ≡ true
  pub only : (x : ℕ) → bool_at new x ≡ true → (bool_at old x ≡ true) ⊎ P x

-- the value of a signal
abbrev pub IsValueOf : Values → ℕ → ℕ → Type 0
IsValueOf f s x = sig_at f.ids.items s ≡ x

-- each signal has a value below the bound
pub record HasValues (n : Netlist) (f : Values) (bound : ℕ) : Type 0 where
  pub full : length f.ids.items ≡ length n.signals
  pub known : (s : ℕ) → s < length n.signals → sig_at f.ids.items s < bound

-- what a kept signal reads: a register its next signal, a named wire its operands
pub data ReadBy (n : Netlist) (a s : ℕ) : Type 0 where
  as_next : (init : ℕ) → kind_at n a ≡ Reg init (Some s) → ReadBy n a s
  as_operand : IsWire n a → is_numbered (name_at n a) ≡ false → ReadsSignal n a s → ReadBy n a s

-- s is an operand of the node at this place, and the value of that node is marked
abbrev pub IsOperandAt : Values → List Bool → ℕ → ℕ → Type 0
IsOperandAt f read place x =
    (node : Node) × (i : ℕ) × (slice_get f.nodes place ≡ Some node) × (slice_get (node_operands node) i ≡ Some x) × (bool_at read (f.kept + place) ≡ true)

-- the operands of the node at this place are values before its own
abbrev pub ReadsLower : Values → ℕ → Type 0
ReadsLower f place = (node : Node) (i x : ℕ) → slice_get f.nodes place ≡ Some node → slice_get (node_operands node) i ≡ Some x → x < f.kept + place

-- x is the value of a signal that kept signal a reads; and of an operand of wire a
pub record HasReader (n : Netlist) (f : Values) (a x : ℕ) : Type 0 where
  pub signal : ℕ
  pub reads : ReadBy n a signal
  pub is : IsValueOf f signal x

pub record HasOperand (n : Netlist) (f : Values) (a x : ℕ) : Type 0 where
  pub signal : ℕ
  pub reads : ReadsSignal n a signal
  pub is : IsValueOf f signal x

-- x is the value of a signal that some kept signal below a reads
pub record HasReaderBelow (n : Netlist) (f : Values) (a x : ℕ) : Type 0 where
  pub reader : ℕ
  pub below : reader < a
  pub has : HasReader n f reader x

-- x is an operand of a node, at place j or later, whose value is marked
pub record HasNodeAbove (f : Values) (read : List Bool) (j x : ℕ) : Type 0 where
  pub place : ℕ
  pub above : j ≤ place
  pub index : ℕ
  pub node : Node
  pub at : slice_get f.nodes place ≡ Some node
  pub marked : bool_at read (f.kept + place) ≡ true
  pub operand : slice_get (node_operands node) index ≡ Some x

-- ---- what is marked so far

pub record HasOutputBelow (n : Netlist) (f : Values) (count x : ℕ) : Type 0 where
  pub index : ℕ
  pub below : index < count
  pub output : List ℕ × ℕ
  pub there : slice_get n.outputs index ≡ Some output
  pub is : IsValueOf f output.1 x

-- exactly the values of P are marked
pub record Marked (count : ℕ) (read : List Bool) (P : ℕ → Type 0) : Type 0 where
  pub long : length read ≡ count
  pub sets : (x : ℕ) → P x → bool_at read x ≡ true
  pub only : (x : ℕ) → bool_at read x ≡ true → P x

abbrev pub IsRootBelow : Netlist → Values → ℕ → ℕ → Type 0
IsRootBelow n f count x = HasReaderBelow n f (length n.signals) x ⊎ HasOutputBelow n f count x

-- ---- declaring signals

-- a signal with the name, the width and the kind of another, which is not set
abbrev pub open_signal : Netlist → ℕ → Signal
open_signal n s = record { name = name_at n s; width = width_of n s; kind = open_kind (kind_at n s) }

-- the new net has one more temporary, with this cell
pub record IsAdded (old new : Netlist) (c : Cell) : Type 0 where
  pub width : ℕ
  pub gives : op_width c.op (map (width_of old) c.operands) ≡ Some width
  pub added : new ≡ with_signal old (wired (temp_name (wires old.signals)) width c)
