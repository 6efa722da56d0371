use Rattle.safl_aiger.proofs.Common.{Passes, kinds_from, own_numbers}
use Rattle.safl_aiger.specs.declared.reading.LineKind.TheVariants.{Input}
use Rattle.safl_aiger.proofs.sections.read_inputs.Given as goal

abbrev pub invariant-loop-i : goal.invariant-loop-i
invariant-loop-i l = Passes l.text l.variables l.fn.at (kinds_from Input 1 l.i) (own_numbers 1 l.i) l.place
