use Rattle.safl_unit.proofs.Common.{input_line, length, map, numbered, port_lines, take, with_signals, ◌≡◌}
use Rattle.safl_unit.proofs.declare.add_ports.Given as goal

abbrev pub invariant-loop-i : goal.invariant-loop-i
invariant-loop-i l = record {
  net : l.net ≡ with_signals l.initial.net (map input_line (take l.i (port_lines l.c.program l.c.names l.f)));
  words : l.words.items ≡ numbered (length l.initial.net.signals) l.i;
}
