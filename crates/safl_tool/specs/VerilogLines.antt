-- The lines that report why a Verilog file is refused.
use Rattle.std.specs.Prelude.{ℕ, List, ◌++◌, codes}
use Rattle.std.specs.List.{flat_map}
use Rattle.safl_verilog.specs.FaultTexts.{vfault_text}
use Rattle.safl_verilog.specs.declared.fault.VFault.{VFault}
use Rattle.safl_tool.specs.Lines.{placed_line, line_at, column_at}

-- a fault of the Verilog file with this name, at its line and column
abbrev pub verilog_line : List ℕ → List ℕ → VFault → List ℕ
verilog_line name text f = placed_line name (line_at text f.place) (column_at text f.place) (vfault_text f)

-- a loop of wires with these names
abbrev pub loop_line : List ℕ → List (List ℕ) → List ℕ
loop_line name wires = name ++ codes ": V09 combinational loop:" ++ flat_map (λ (x : List ℕ). codes " " ++ x) wires ++ codes "\n"

-- ---- parts by name

abbrev pub spaced_name : List ℕ → List ℕ
spaced_name x = codes " " ++ x

abbrev pub spaced : List (List ℕ) → List ℕ
spaced xs = flat_map (λ (x : List ℕ). codes " " ++ x) xs
