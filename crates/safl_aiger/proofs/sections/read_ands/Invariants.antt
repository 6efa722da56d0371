use Rattle.safl_aiger.proofs.Common.{And, Passes, and_numbers, kinds_from, length, ◌≡◌}
use Rattle.safl_aiger.proofs.sections.read_ands.Given as goal

abbrev pub invariant-loop-i : goal.invariant-loop-i
invariant-loop-i l = record {
  count : length l.ands.items ≡ l.i;
  passes : Passes l.text l.variables l.fn.at (kinds_from And l.first l.i) (and_numbers l.first l.ands.items) l.place;
}
