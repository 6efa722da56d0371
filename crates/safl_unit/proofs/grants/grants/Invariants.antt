use Rattle.safl_lower.specs.Sources.{Builds}
use Rattle.safl_unit.proofs.equations.Granting.{Granted}
use Rattle.safl_unit.proofs.grants.grants.Given as goal

abbrev pub invariant-loop-done : goal.invariant-loop-done
invariant-loop-done l = record {
  since : Builds l.initial.net l.net l.done;
  so_far : Granted l.p.program l.p.choice l.net l.pins l.goes.items l.done;
}
