use Rattle.std.proofs.Common.{◌≡◌, ◌++◌, map, drop, string_bytes}
use Rattle.safl_tool.proofs.Naming.{names_at}
use Rattle.safl_tool.proofs.run_file.names_of.Given as goal

abbrev pub invariant-wires : goal.invariant-wires
invariant-wires l = map string_bytes l.names.items ++ names_at l.net (drop l.i l.wires) ≡ names_at l.net l.wires
