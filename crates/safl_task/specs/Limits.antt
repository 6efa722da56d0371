-- The limits of input files.
use Rattle.std.specs.Prelude.{ℕ}

-- the greatest length in bytes of a script, of a Verilog file and of an AIGER file
abbrev pub script_max : ℕ
script_max = 1048576

abbrev pub verilog_max : ℕ
verilog_max = 67108864

abbrev pub aig_max : ℕ
aig_max = 536870912
