use Rattle.safl_unit.proofs.Common.{argument_lines, length, map, numbered, open_register, take, with_signals, ◌≡◌}
use Rattle.safl_unit.proofs.declare.add_arguments.Given as goal

abbrev pub invariant-loop-i : goal.invariant-loop-i
invariant-loop-i l = record {
  net : l.net ≡ with_signals l.initial.net (map open_register (take l.i (argument_lines l.c.program l.c.names l.f)));
  args : l.args.items ≡ numbered (length l.initial.net.signals) l.i;
}
