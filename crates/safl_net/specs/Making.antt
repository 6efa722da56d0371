-- Building a netlist, and asking about it.
use Rattle.std.specs.Prelude.{◌≡◌, ℕ, zero, suc, List, [], ◌∷◌, ◌++◌, map, Option, Some, None, Result, Ok, Err, cond, unwrap_or, slice_get}
use Rattle.std.specs.Option.{option_or, option_map_or}
use Rattle.safl_net.specs.declared.cell.Sig.{Sig}
use Rattle.safl_net.specs.declared.cell.SigKind.{SigKind}
use Rattle.safl_net.specs.declared.cell.Op.{Op}
use Rattle.safl_net.specs.declared.net.NetErr.{NetErr}
use Rattle.safl_net.specs.declared.net.NetErr.TheVariants.{NameTaken, BadName, NoMemory}
use Rattle.safl_net.specs.Netlist.{Netlist, Signal, Kind, Input, Reg, Wire, Cell, width_of, place, output_place}
use Rattle.safl_net.specs.Names.{is_good, has_name, temp_name, wires}
use Rattle.safl_net.specs.Widths.{op_width}

-- the net with one more signal; and with one more output
abbrev pub with_signal : Netlist → Signal → Netlist
with_signal n g = record { signals = n.signals ++ g ∷ []; outputs = n.outputs }

abbrev pub with_output : Netlist → List ℕ → ℕ → Netlist
with_output n name s = record { signals = n.signals; outputs = n.outputs ++ (name, s) ∷ [] }

-- the signals, with another kind for the one at a place
abbrev pub set_kind : List Signal → ℕ → Kind → List Signal
set_kind [] s k = []
set_kind (g ∷ gs) zero k = record { name = g.name; width = g.width; kind = k } ∷ gs
set_kind (g ∷ gs) (suc s) k = g ∷ set_kind gs s k

abbrev pub with_kind : Netlist → ℕ → Kind → Netlist
with_kind n s k = record { signals = set_kind n.signals s k; outputs = n.outputs }

-- the numbers of signals
abbrev pub numbers : List Sig → List ℕ
numbers xs = map (λ (s : Sig). s.0) xs

abbrev pub cell_on : Op → List Sig → Cell
cell_on op xs = record { op = op; operands = numbers xs }

-- the widths of signals
abbrev pub signal_widths : Netlist → List ℕ → List ℕ
signal_widths n xs = map (width_of n) xs

-- the signal of a wire with a cell
abbrev pub wired : List ℕ → ℕ → Cell → Signal
wired name width c = record { name = name; width = width; kind = Wire (Some c) }

-- the width of an operation on these signals, if they fit
abbrev pub width_on : Netlist → Op → List Sig → Option ℕ
width_on n op xs = op_width op (signal_widths n (numbers xs))

-- the next temporary: a wire with this cell, named `n$` and its number among the wires
abbrev pub temporary : Netlist → Op → List Sig → Signal
temporary n op xs = wired (temp_name (wires n.signals)) (unwrap_or (width_on n op xs) 0) (cell_on op xs)

-- why a name is refused: it is not good, or it is taken
abbrev pub refusal : Netlist → List ℕ → Option NetErr
refusal n name = cond (is_good name) (cond (has_name n name) (Some NameTaken) None) (Some BadName)

-- the result is exactly this refusal. If there is none, it may only be out of memory
abbrev pub Refuses : {A : Type 0} → Option NetErr → Result A NetErr → Type 0
Refuses (Some e) r = r ≡ Err e
Refuses None (Ok x) = Unit {0}
Refuses None (Err e) = e ≡ NoMemory

-- the kind of a signal, or an input if there is no signal; and its name, or an empty one
abbrev pub kind_at : Netlist → ℕ → Kind
kind_at n s = option_map_or (λ (g : Signal). g.kind) (slice_get n.signals s) Input

abbrev pub name_at : Netlist → ℕ → List ℕ
name_at n s = option_map_or (λ (g : Signal). g.name) (slice_get n.signals s) []

-- the kind of a signal, as the code says it
abbrev pub sort_of : Kind → SigKind
sort_of Input = SigKind.Input
sort_of (Reg init next) = SigKind.Reg
sort_of (Wire cell) = SigKind.Wire

-- the next signal of a register; and the cell of a wire
abbrev pub next_in : Kind → Option ℕ
next_in (Reg init next) = next
next_in _ = None

abbrev pub cell_in : Kind → Option Cell
cell_in (Wire cell) = cell
cell_in _ = None

-- the signal with a name, or else the one that the output with that name shows
abbrev pub found : Netlist → List ℕ → Option ℕ
found n name = option_or (place n.signals name 0) (output_place n.outputs name)

-- ---- parts by name

abbrev pub kind_in : Option Signal → Kind
kind_in o = option_map_or (λ (g : Signal). g.kind) o Input

abbrev pub name_in : Option Signal → List ℕ
name_in o = option_map_or (λ (g : Signal). g.name) o []
