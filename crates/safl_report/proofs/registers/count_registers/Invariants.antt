use Rattle.std.proofs.Common.{◌≡◌, ◌≤◌, ◌*◌, length, take}
use Rattle.safl_report.specs.Report.{registers, bits_of}
use Rattle.safl_report.proofs.registers.count_registers.Given as goal

abbrev pub invariant-loop-i : goal.invariant-loop-i
invariant-loop-i l = record {
  count : l.total.count ≡ length (registers (take l.i l.n.signals));
  bits : l.total.bits ≡ bits_of (registers (take l.i l.n.signals));
  few : l.total.count ≤ l.i;
  narrow : l.total.bits ≤ 255 * l.i;
}
