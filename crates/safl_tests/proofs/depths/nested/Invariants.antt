use Rattle.safl_tree.specs.Shown.{shown_tree}
use Rattle.safl_tree.specs.Printable.{IsFormed}
use Rattle.safl_tests.proofs.depths.nested.Given as goal

abbrev pub invariant-loop-level : goal.invariant-loop-level
invariant-loop-level l = IsFormed (shown_tree l.e)
