use Rattle.std.proofs.Common.{◌≡◌}
use Rattle.safl_aig.specs.Tables.{variable_lits}
use Rattle.safl_aig.proofs.table.variables.Given as goal

abbrev pub invariant-loop-i : goal.invariant-loop-i
invariant-loop-i l = l.all.items ≡ variable_lits l.first l.i
