use Rattle.std.proofs.Common.{◌≡◌, ◌++◌, map, drop, string_bytes}
use Rattle.safl_tool.specs.VerilogLines.{spaced}
use Rattle.safl_tool.proofs.verilog_lines.push_names.Given as goal

abbrev pub invariant-names : goal.invariant-names
invariant-names l = l.out.items ++ spaced (map string_bytes (drop l.i l.names)) ≡ l.fn.out.items ++ spaced (map string_bytes l.names)
