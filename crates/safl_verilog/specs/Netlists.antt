-- The netlist that a file reads as.
use Rattle.std.specs.Prelude.{ℕ, suc, List, [], ◌∷◌, ◌++◌, map, filter, Option, None, Some, if◌then◌else◌, option_map}
use Rattle.std.specs.Option.{option_map_or}
use Rattle.std.specs.Str.{bytes_eq}
use Rattle.safl_net.specs.Netlist.{Netlist, Signal, Kind, Input, Reg, Wire, Cell}
use Rattle.safl_verilog.specs.declared.token.Sort.{Sort}
use Rattle.safl_verilog.specs.declared.token.Sort.TheVariants as sorts
use Rattle.safl_verilog.specs.Files.{Spot, RightSide, Plain, Declaration, File}
use Rattle.safl_verilog.specs.Faults.{is_data, is_a, range_width, literal_value, parts, assigned, updated}

-- the declarations of signals: inputs other than the clock and the reset, then registers, then wires
abbrev pub signals_of : List Declaration → List Declaration
signals_of ds = filter is_data ds ++ filter (λ (d : Declaration). is_a sorts.Reg d.sort) ds ++ filter (λ (d : Declaration). is_a sorts.Wire d.sort) ds

abbrev pub declared_place : List Declaration → List ℕ → ℕ
declared_place [] name = 0
declared_place (d ∷ ds) name = if bytes_eq d.name.bytes name then 0 else suc (declared_place ds name)

-- the number of the signal with a name
abbrev pub signal_number : List Declaration → List ℕ → ℕ
signal_number ds name = declared_place (signals_of ds) name

-- the kind of a signal: an input is free, a register has the number and the next signal of its update, a wire what it is assigned
abbrev pub signal_kind : File → Sort → List ℕ → Kind
signal_kind f sorts.Reg name =
    option_map_or (λ (u : Spot × Spot). Reg (literal_value u.0.bytes) (Some (signal_number f.declarations u.1.bytes))) (updated f.statements name) (Reg 0 None)
signal_kind f sorts.Wire name =
    Wire (option_map (λ (e : RightSide). record { op = (parts e).0; operands = map (λ (a : Spot). signal_number f.declarations a.bytes) (parts e).1 })
    (assigned f.statements name))
signal_kind f _ name = Input

-- the number of the signal that an output shows: that with the name that it is assigned
abbrev pub shown_signal : List Declaration → Option RightSide → ℕ
shown_signal ds (Some (Plain a)) = signal_number ds a.bytes
shown_signal ds _ = 0

unfoldable pub netlist : File → Netlist
netlist f = record {
  signals =
      map (λ (d : Declaration). record { name = d.name.bytes; width = range_width d.range; kind = signal_kind f d.sort d.name.bytes }) (signals_of f.declarations);
  outputs =
      map (λ (d : Declaration). (d.name.bytes, shown_signal f.declarations (assigned f.statements d.name.bytes)))
      (filter (λ (d : Declaration). is_a sorts.Output d.sort) f.declarations);
}

-- ---- parts by name

abbrev pub cell_of : List Declaration → RightSide → Cell
cell_of ds e = record { op = (parts e).0; operands = map (λ (a : Spot). signal_number ds a.bytes) (parts e).1 }

abbrev pub driven : List Declaration → Option RightSide → Option Cell
driven ds o = option_map (λ (e : RightSide). cell_of ds e) o

abbrev pub register_of : List Declaration → Option (Spot × Spot) → Kind
register_of ds o = option_map_or (λ (u : Spot × Spot). Reg (literal_value u.0.bytes) (Some (signal_number ds u.1.bytes))) o (Reg 0 None)

abbrev pub signal_of : File → Declaration → Signal
signal_of f d = record { name = d.name.bytes; width = range_width d.range; kind = signal_kind f d.sort d.name.bytes }

abbrev pub output_of : File → Declaration → List ℕ × ℕ
output_of f d = (d.name.bytes, shown_signal f.declarations (assigned f.statements d.name.bytes))
