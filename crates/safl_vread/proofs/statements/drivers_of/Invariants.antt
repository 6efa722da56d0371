use Rattle.safl_vparse.specs.Shown.{shown_declarations, shown_statement}
use Rattle.safl_vread.proofs.StatementLoop.{IsSoFar}
use Rattle.safl_vread.proofs.statements.drivers_of.Given as goal

abbrev pub invariant-loop-s : goal.invariant-loop-s
invariant-loop-s l = IsSoFar (shown_declarations l.scope.text.now l.scope.declarations.now) (shown_statement l.scope.text.now) l.statements l.s-index l.drivers.items
