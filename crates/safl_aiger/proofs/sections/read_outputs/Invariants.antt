use Rattle.safl_aiger.proofs.Common.{Passes, length, output_numbers, replicate, ◌≡◌}
use Rattle.safl_aiger.specs.declared.reading.LineKind.TheVariants.{Output}
use Rattle.safl_aiger.proofs.sections.read_outputs.Given as goal

abbrev pub invariant-loop-i : goal.invariant-loop-i
invariant-loop-i l = record {
  count : length l.outputs.items ≡ l.i;
  passes : Passes l.text l.variables l.fn.at (replicate l.i Output) (output_numbers l.outputs.items) l.place;
}
