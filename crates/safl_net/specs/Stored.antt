-- The netlist that the tables of a net hold.
use Rattle.std.specs.Prelude.{◌≡◌, ℕ, List, map, Option, Some, None, slice_get, String, string_bytes}
use Rattle.std.specs.declared.alloc.Global.{Global}
use Rattle.safl_net.specs.declared.cell.Sig.{Sig}
use Rattle.safl_net.specs.declared.cell.Cell.{Cell as Made}
use Rattle.safl_net.specs.declared.net.Row.{Row}
use Rattle.safl_net.specs.declared.net.Driver.{Driver}
use Rattle.safl_net.specs.declared.net.Driver.TheVariants as driver
use Rattle.safl_net.specs.Netlist.{Netlist, Signal, Kind, Input, Reg, Wire, Cell}
use Rattle.safl_net.specs.Making.{cell_on}
use Rattle.safl_net.specs.Names.{wires}
use Rattle.safl_net.specs.Rules.{IsNetlist}

abbrev pub number_of : Option Sig → Option ℕ
number_of None = None
number_of (Some s) = Some s.0

abbrev pub cell_of : Made → Cell
cell_of c = cell_on c.op c.operands.items

abbrev pub maybe_cell : Option Made → Option Cell
maybe_cell None = None
maybe_cell (Some c) = Some (cell_of c)

abbrev pub kind_of : Driver → Kind
kind_of driver.Input = Input
kind_of (driver.Reg init next) = Reg init.bits (number_of next)
kind_of (driver.Wire cell) = Wire (maybe_cell cell)

abbrev pub signal_of : List ℕ → Row → Signal
signal_of name r = record { name = name; width = r.width; kind = kind_of r.driver }

abbrev pub signals_of : List (String Global × Row) → List Signal
signals_of es = map (λ (e : String Global × Row). signal_of (string_bytes e.0) e.1) es

abbrev pub outputs_of : List (String Global × Sig) → List (List ℕ × ℕ)
outputs_of es = map (λ (e : String Global × Sig). (string_bytes e.0, e.1.0)) es

abbrev pub net_of : List (String Global × Row) → List (String Global × Sig) → Netlist
net_of es os = record { signals = signals_of es; outputs = outputs_of os }

-- the reset word of a register has the register's width
abbrev pub ResetFits : ℕ → Driver → Type 0
ResetFits width driver.Input = Unit {0}
ResetFits width (driver.Reg init next) = init.width ≡ width
ResetFits width (driver.Wire cell) = Unit {0}

-- what a net keeps: its tables hold a netlist, and it knows how many wires that has
pub record KeepsNetlist (es : List (String Global × Row)) (os : List (String Global × Sig)) (count : ℕ) : Type 0 where
  pub netlist : IsNetlist (net_of es os)
  pub resets : (i : ℕ) (e : String Global × Row) → slice_get es i ≡ Some e → ResetFits e.1.width e.1.driver
  pub counted : count ≡ wires (signals_of es)
