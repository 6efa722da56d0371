-- The values of a net. Wires with the same value have the same word in every cycle.
use Rattle.std.specs.Prelude.{◌≡◌, ◌≢◌, ℕ, zero, suc, ◌+◌, ◌-◌, ◌<◌, ◌≤◌, List, [], ◌∷◌, ◌++◌, map, length, Option}
use Rattle.std.specs.Prelude.{Some, None, Bool, true, false, cond, not, ◌&&◌, nat_lt, ◌⊎◌, slice_get, slice_set}
use Rattle.safl_word.specs.Words.{Word, IsWord}
use Rattle.safl_net.specs.declared.cell.Sig.{Sig}
use Rattle.safl_net.specs.Netlist.{Netlist, Cell, width_of, is_input, is_register, is_wire}
use Rattle.safl_net.specs.Making.{kind_at, name_at, numbers, signal_widths}
use Rattle.safl_net.specs.Valuations.{cell_word}
use Rattle.safl_net.specs.Widths.{op_width, HasWord}
use Rattle.safl_net.specs.Growth.{Val, Wired}
use Rattle.safl_order.specs.Order.{IsWire, IsOrder}
use Rattle.safl_opt.specs.declared.node.Node.{Node}
use Rattle.safl_opt.specs.declared.node.Node.TheVariants.{Const, Mux, One, Two}
use Rattle.safl_opt.specs.declared.fold.Values.{Values}
use Rattle.safl_opt.specs.declared.fold.Made.{Made}
use Rattle.safl_opt.specs.declared.fold.Made.TheVariants.{Same, New}
use Rattle.safl_opt.specs.Lean.{is_numbered, is_constant, IsTemporary}
use Rattle.safl_opt.specs.Nodes.{node_op, node_operands}

-- ---- the kept signals

-- the numbers below a bound that pass a test, in order
abbrev pub below : (ℕ → Bool) → ℕ → List ℕ
below f zero = []
below f (suc i) = below f i ++ cond (f i) (i ∷ []) []

abbrev pub inputs_below : Netlist → ℕ → List ℕ
inputs_below n i = below (λ s. is_input (kind_at n s)) i

abbrev pub registers_below : Netlist → ℕ → List ℕ
registers_below n i = below (λ s. is_register (kind_at n s)) i

-- the signal is a wire with a name of its own
abbrev pub is_named_wire : Netlist → ℕ → Bool
is_named_wire n s = is_wire (kind_at n s) && not (is_numbered (name_at n s))

abbrev pub named_below : Netlist → ℕ → List ℕ
named_below n i = below (λ s. is_named_wire n s) i

-- inputs, registers and named wires
abbrev pub kept_in : Netlist → List ℕ
kept_in n = inputs_below n (length n.signals) ++ (registers_below n (length n.signals) ++ named_below n (length n.signals))

-- ---- numbers of values

-- the number at a place
abbrev pub sig_at : List Sig → ℕ → ℕ
sig_at [] i = 0
sig_at (x ∷ xs) zero = x.0
sig_at (x ∷ xs) (suc i) = sig_at xs i

-- the word of a value, which is that of a signal with the value
abbrev pub value_word : Val → List Sig → ℕ → Word
value_word v signals x = v (sig_at signals x)

abbrev pub value_width : Netlist → List Sig → ℕ → ℕ
value_width n signals x = width_of n (sig_at signals x)

-- whether a value is that of a constant
abbrev pub is_const_node : Option Node → Bool
is_const_node None = false
is_const_node (Some (Const w)) = true
is_const_node (Some (Mux c a b)) = false
is_const_node (Some (One p a)) = false
is_const_node (Some (Two p a b)) = false

abbrev pub is_fixed : Netlist → ℕ → List Sig → List Node → ℕ → Bool
is_fixed n kept signals nodes x = cond (nat_lt x kept) (is_constant n (sig_at signals x)) (is_const_node (slice_get nodes (x - kept)))

-- a is no wire, or comes before place p of the order
abbrev pub Before : Netlist → List ℕ → ℕ → ℕ → Type 0
Before n ws a p = (¬ IsWire n a) ⊎ ((i : ℕ) × (i < p) × (slice_get ws i ≡ Some a))

-- x is the value of signal s: its own signal has the width and, in every cycle, the word of s, and comes no later
pub record HasValue (n : Netlist) (ws : List ℕ) (signals : List Sig) (s x : ℕ) : Type 0 where
  pub known : x < length signals
  pub width : value_width n signals x ≡ width_of n s
  pub word : (v : Val) → Wired n v → value_word v signals x ≡ v s
  pub early : (p : ℕ) → Before n ws s p → Before n ws (sig_at signals x) p

-- the node could not be spared: a primitive has an operand that is no constant, and the condition of a choice between two values
-- is no constant
abbrev pub IsLeanNode : (ℕ → Bool) → Node → Type 0
IsLeanNode fixed (Const w) = Unit {0}
IsLeanNode fixed (Mux c a b) = (fixed c.0 ≡ false) × (a.0 ≢ b.0)
IsLeanNode fixed (One p a) = fixed a.0 ≡ false
IsLeanNode fixed (Two p a b) = (fixed a.0 && fixed b.0) ≡ false

-- The value x of the node has the node's word in every cycle. The operands are values before x.
pub record IsMade (n : Netlist) (ws : List ℕ) (count kept : ℕ) (signals : List Sig) (nodes : List Node) (x : ℕ) (node : Node) : Type 0 where
  pub place : ℕ
  pub past : place < count
  pub there : slice_get ws place ≡ Some (sig_at signals x)
  pub lower : (i y : ℕ) → slice_get (node_operands node) i ≡ Some y → (y < x) × Before n ws (sig_at signals y) place
  pub word : (v : Val) → Wired n v → value_word v signals x ≡ cell_word (node_op node) (map (value_word v signals) (node_operands node))
  pub gives : op_width (node_op node) (map (value_width n signals) (node_operands node)) ≡ Some (value_width n signals x)
  pub good : HasWord (node_op node)
  pub lean : IsLeanNode (is_fixed n kept signals nodes) node

-- the signal has its value: it is kept, or is one of the first in the order
abbrev pub IsDone : Netlist → List ℕ → ℕ → ℕ → Type 0
IsDone n ws count s = (s < length n.signals) × ((¬ IsTemporary n s) ⊎ ((i : ℕ) × (i < count) × (slice_get ws i ≡ Some s)))

-- the first values are those of the kept signals, and every other value has its node
pub record Folds (n : Netlist) (ws : List ℕ) (count : ℕ) (f : Values) : Type 0 where
  pub rest : List ℕ
  pub first : numbers f.signals.items ≡ kept_in n ++ rest
  pub kept : f.kept ≡ length (kept_in n)
  pub counted : length f.signals.items ≡ f.kept + length f.nodes
  pub few : length f.nodes ≤ count
  pub full : length f.ids.items ≡ length n.signals
  pub own : (x : ℕ) → x < f.kept → sig_at f.ids.items (sig_at f.signals.items x) ≡ x
  pub values : (s : ℕ) → IsDone n ws count s → HasValue n ws f.signals.items s (sig_at f.ids.items s)
  pub made : (j : ℕ) (node : Node) → slice_get f.nodes j ≡ Some node → IsMade n ws count f.kept f.signals.items f.nodes (f.kept + j) node

-- the wire is the next in the order
abbrev pub IsNext : Netlist → Values → ℕ → Type 0
IsNext n f wire = (ws : List ℕ) × (count : ℕ) × IsOrder n ws × Folds n ws count f × (slice_get ws count ≡ Some wire)

-- the wire was the next in the order, and now has its value
abbrev pub Adds : Netlist → Values → ℕ → Values → Type 0
Adds n f wire g = (ws : List ℕ) (count : ℕ) → IsOrder n ws → Folds n ws count f → slice_get ws count ≡ Some wire → Folds n ws (count + 1) g

-- ---- what a cell comes to

-- the cell has, in every cycle, the word of value x, which is that of an operand
pub record IsSame (n : Netlist) (f : Values) (c : Cell) (x : ℕ) : Type 0 where
  pub place : ℕ
  pub operand : ℕ
  pub there : slice_get c.operands place ≡ Some operand
  pub is : sig_at f.ids.items operand ≡ x
  pub word : (v : Val) → Wired n v → value_word v f.signals.items x ≡ cell_word c.op (map v c.operands)
  pub gives : op_width c.op (signal_widths n c.operands) ≡ Some (value_width n f.signals.items x)

-- the node has, in every cycle, the word of the cell, and its operands are values of the cell's operands
pub record IsNew (n : Netlist) (f : Values) (c : Cell) (node : Node) : Type 0 where
  pub operands : (i x : ℕ) → slice_get (node_operands node) i ≡ Some x → (k : ℕ) × (s : ℕ) × (slice_get c.operands k ≡ Some s) × (sig_at f.ids.items s ≡ x)
  pub word : (v : Val) → Wired n v → cell_word (node_op node) (map (value_word v f.signals.items) (node_operands node)) ≡ cell_word c.op (map v c.operands)
  pub gives : op_width (node_op node) (map (value_width n f.signals.items) (node_operands node)) ≡ op_width c.op (signal_widths n c.operands)
  pub good : HasWord (node_op node)
  pub lean : IsLeanNode (is_fixed n f.kept f.signals.items f.nodes) node

abbrev pub Comes : Netlist → Values → Cell → Made → Type 0
Comes n f c (Same x) = IsSame n f c x.0
Comes n f c (New node) = IsNew n f c node

-- the cell's operands have their values
pub record IsReady (n : Netlist) (f : Values) (c : Cell) : Type 0 where
  pub ws : List ℕ
  pub count : ℕ
  pub folds : Folds n ws count f
  pub width : ℕ
  pub gives : op_width c.op (signal_widths n c.operands) ≡ Some width
  pub good : HasWord c.op
  pub operands : (i s : ℕ) → slice_get c.operands i ≡ Some s → IsDone n ws count s

-- value x is a constant with word w
pub record IsFixed (n : Netlist) (f : Values) (x : ℕ) (w : Word) : Type 0 where
  pub word : (v : Val) → Wired n v → value_word v f.signals.items x ≡ w
  pub width : w.width ≡ value_width n f.signals.items x
  pub is : IsWord w

-- ---- adding values

-- the value with this number is that of the node. If the node is new, the wire is the signal of the value
pub record IsPut (old new : Values) (wire : Sig) (node : Node) (x : ℕ) : Type 0 where
  pub place : ℕ
  pub number : x ≡ old.kept + place
  pub there : slice_get new.nodes place ≡ Some node
  pub kept : new.kept ≡ old.kept
  pub ids : new.ids.items ≡ old.ids.items
  pub grown :
      ((new.nodes ≡ old.nodes) × (new.signals.items ≡ old.signals.items))
      ⊎ ((new.nodes ≡ old.nodes ++ node ∷ []) × (new.signals.items ≡ old.signals.items ++ wire ∷ []) × (place ≡ length old.nodes))

-- the wire has this value
pub record IsSet (old new : Values) (wire x : Sig) : Type 0 where
  pub kept : new.kept ≡ old.kept
  pub signals : new.signals.items ≡ old.signals.items
  pub nodes : new.nodes ≡ old.nodes
  pub ids : new.ids.items ≡ slice_set old.ids.items wire.0 x
