use Rattle.safl_aiger.proofs.Common.{Passes, kinds_from, latch_numbers, length, ◌≡◌}
use Rattle.safl_aiger.specs.declared.reading.LineKind.TheVariants.{Latch}
use Rattle.safl_aiger.proofs.sections.read_latches.Given as goal

abbrev pub invariant-loop-i : goal.invariant-loop-i
invariant-loop-i l = record {
  count : length l.nexts.items ≡ l.i;
  passes : Passes l.text l.variables l.fn.at (kinds_from Latch l.first l.i) (latch_numbers l.first l.nexts.items) l.place;
}
