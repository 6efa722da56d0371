-- Netlists: a list of signals, each with its kind, and a list of outputs.
use Rattle.std.specs.Prelude.{◌≡◌, ℕ, suc, List, [], ◌∷◌, Option, None, Some, cond, slice_get, Bool, true, false}
use Rattle.std.specs.Option.{option_map_or}
use Rattle.std.specs.Str.{bytes_eq}
use Rattle.safl_net.specs.declared.cell.Op.{Op}

-- an operation, and the numbers of its operands
pub record Cell : Type 0 where
  pub op : Op
  pub operands : List ℕ

-- an input; a register, with its number at reset and its next signal; a wire, with its cell
pub data Kind : Type 0 where
  Input : Kind
  Reg : (init : ℕ) (next : Option ℕ) → Kind
  Wire : (cell : Option Cell) → Kind

pub record Signal : Type 0 where
  pub name : List ℕ
  pub width : ℕ
  pub kind : Kind

-- signals, and outputs, which are a name and the number of a signal
pub record Netlist : Type 0 where
  pub signals : List Signal
  pub outputs : List (List ℕ × ℕ)

-- the width of a signal, or 0 if there is none
abbrev pub width_of : Netlist → ℕ → ℕ
width_of n s = option_map_or (λ (g : Signal). g.width) (slice_get n.signals s) 0

-- a register has a next signal, and a wire has a cell
abbrev pub IsSet : Kind → Type 0
IsSet (Reg init None) = ⊥
IsSet (Wire None) = ⊥
IsSet _ = Unit {0}

abbrev pub AllSet : Netlist → Type 0
AllSet n = (s : ℕ) (g : Signal) → slice_get n.signals s ≡ Some g → IsSet g.kind

-- the place of the first signal with a name, counted from i on
unfoldable pub place : List Signal → List ℕ → ℕ → Option ℕ
place [] name i = None
place (g ∷ gs) name i = cond (bytes_eq g.name name) (Some i) (place gs name (suc i))

abbrev pub output_place : List (List ℕ × ℕ) → List ℕ → Option ℕ
output_place [] name = None
output_place (o ∷ os) name = cond (bytes_eq o.0 name) (Some o.1) (output_place os name)

abbrev pub is_input : Kind → Bool
is_input Input = true
is_input _ = false

abbrev pub is_register : Kind → Bool
is_register (Reg init next) = true
is_register _ = false

abbrev pub is_wire : Kind → Bool
is_wire (Wire cell) = true
is_wire _ = false

-- what an input has, before what those after it have
abbrev pub with_input : Kind → ℕ → List ℕ → List ℕ
with_input Input i is = i ∷ is
with_input (Reg init next) i is = is
with_input (Wire cell) i is = is

-- the kind before what drives the signal is set
abbrev pub open_kind : Kind → Kind
open_kind Input = Input
open_kind (Reg init next) = Reg init None
open_kind (Wire cell) = Wire None

-- ---- parts by name

abbrev pub width_in : Option Signal → ℕ
width_in o = option_map_or (λ (g : Signal). g.width) o 0
