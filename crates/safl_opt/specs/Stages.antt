-- The stages of building a net.
-- First the kept signals are declared, then temporaries are made, then cells and next signals are set, then outputs are added.
use Rattle.std.specs.Prelude.{◌≡◌, ℕ, ◌+◌, ◌<◌, ◌≤◌, List, [], map, length, take, Some, Bool, true, ◌⊎◌, slice_get}
use Rattle.safl_word.specs.Lists.{bool_at}
use Rattle.safl_net.specs.declared.cell.Sig.{Sig}
use Rattle.safl_net.specs.Netlist.{Netlist, Signal, width_of}
use Rattle.safl_net.specs.Names.{is_temp, IsTidy}
use Rattle.safl_net.specs.Making.{name_at}
use Rattle.safl_opt.specs.declared.node.Node.{Node}
use Rattle.safl_opt.specs.declared.fold.Values.{Values}
use Rattle.safl_order.specs.Order.{IsOrder}
use Rattle.safl_opt.specs.Values.{sig_at, Folds}
use Rattle.safl_opt.specs.Building.{IsRoot, new_number, open_signal, kept_signal, IsNodeOf}

-- the first `count` kept signals are declared, and nothing else is in the net
pub record Declared (n : Netlist) (f : Values) (count : ℕ) (m : Netlist) : Type 0 where
  pub long : length m.signals ≡ count
  pub each : (x : ℕ) → x < count → slice_get m.signals x ≡ Some (open_signal n (sig_at f.signals.items x))
  pub outputs : m.outputs ≡ []

-- the node at a place has its temporary, after the kept signals
pub record HasTemporary (n : Netlist) (f : Values) (made : List Sig) (place : ℕ) (node : Node) (m : Netlist) : Type 0 where
  pub behind : f.kept ≤ sig_at made (f.kept + place)
  pub signal : Signal
  pub there : slice_get m.signals (sig_at made (f.kept + place)) ≡ Some signal
  pub is : IsNodeOf n f made (f.kept + place) node signal

-- the temporary belongs to a node that is read, one of the first `count`
pub record IsOfNode (f : Values) (read : List Bool) (count : ℕ) (made : List Sig) (y : ℕ) : Type 0 where
  pub place : ℕ
  pub node : Node
  pub below : place < count
  pub at : slice_get f.nodes place ≡ Some node
  pub is_read : bool_at read (f.kept + place) ≡ true
  pub number : sig_at made (f.kept + place) ≡ y

-- Each of the first `count` nodes that is read has a temporary of its own. There are no outputs yet.
pub record Placed (n : Netlist) (f : Values) (read : List Bool) (count : ℕ) (made : List Sig) (m : Netlist) : Type 0 where
  pub long : length made ≡ f.kept + count
  pub few : length m.signals ≤ f.kept + count
  pub own : (x : ℕ) → x < f.kept → sig_at made x ≡ x
  pub kept : (x : ℕ) → x < f.kept → slice_get m.signals x ≡ Some (open_signal n (sig_at f.signals.items x))
  pub nodes : (j : ℕ) (node : Node) → j < count → slice_get f.nodes j ≡ Some node → bool_at read (f.kept + j) ≡ true → HasTemporary n f made j node m
  pub each : (y : ℕ) (g : Signal) → slice_get m.signals y ≡ Some g → f.kept ≤ y → IsOfNode f read count made y
  pub once : (i j : ℕ) → i < count → j < count → bool_at read (f.kept + i) ≡ true → bool_at read (f.kept + j) ≡ true
      → sig_at made (f.kept + i) ≡ sig_at made (f.kept + j) → i ≡ j
  pub outputs : m.outputs ≡ []
  pub tidy : IsTidy m

-- the value of each root has a number in the net, and its width
pub record HaveNumbers (n : Netlist) (f : Values) (made : List Sig) (m : Netlist) : Type 0 where
  pub listed : (s : ℕ) → IsRoot n s → (s < length f.ids.items) × (sig_at f.ids.items s < length made)
  pub known : (s : ℕ) → IsRoot n s → new_number f made s < length m.signals
  pub width : (s : ℕ) → IsRoot n s → width_of m (new_number f made s) ≡ width_of n s

-- signal s is the next to be set: it is kept, it is not set yet, and what it reads has numbers
pub record IsTurn (n : Netlist) (f : Values) (made : List Sig) (i s : ℕ) (m : Netlist) : Type 0 where
  pub wires : List ℕ
  pub order : IsOrder n wires
  pub folds : Folds n wires (length wires) f
  pub within : i < f.kept
  pub signal : s ≡ sig_at f.signals.items i
  pub open_yet : slice_get m.signals i ≡ Some (open_signal n (sig_at f.signals.items i))
  pub numbers : HaveNumbers n f made m

-- these signals have values that are in the list
abbrev pub AreListed : Values → List Sig → List ℕ → Type 0
AreListed f made xs = (k s : ℕ) → slice_get xs k ≡ Some s → (s < length f.ids.items) × (sig_at f.ids.items s < length made)

-- the first `count` kept signals are set, the other ones are not, and the rest is as it was
pub record SetBelow (n : Netlist) (f : Values) (made : List Sig) (first : Netlist) (count : ℕ) (m : Netlist) : Type 0 where
  pub long : length m.signals ≡ length first.signals
  pub widths : (y : ℕ) → width_of m y ≡ width_of first y
  pub done : (x : ℕ) → x < count → slice_get m.signals x ≡ Some (kept_signal n f made (sig_at f.signals.items x))
  pub left : (x : ℕ) → count ≤ x → x < f.kept → slice_get m.signals x ≡ Some (open_signal n (sig_at f.signals.items x))
  pub rest : (y : ℕ) → f.kept ≤ y → slice_get m.signals y ≡ slice_get first.signals y
  pub outputs : m.outputs ≡ first.outputs
  pub tidy : IsTidy m

-- a name is that of a temporary, or of a signal of the old net
pub record HasName (n : Netlist) (name : List ℕ) : Type 0 where
  pub signal : ℕ
  pub known : signal < length n.signals
  pub is : name_at n signal ≡ name

abbrev pub AreNamed : Netlist → Netlist → Type 0
AreNamed n m = (y : ℕ) (g : Signal) → slice_get m.signals y ≡ Some g → (is_temp g.name ≡ true) ⊎ HasName n g.name

-- the first `count` outputs are added
pub record Shown (n : Netlist) (f : Values) (made : List Sig) (first : Netlist) (count : ℕ) (m : Netlist) : Type 0 where
  pub signals : m.signals ≡ first.signals
  pub outputs : m.outputs ≡ map (λ o. (o.0, new_number f made o.1)) (take count n.outputs)
  pub tidy : IsTidy m
