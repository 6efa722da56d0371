use Rattle.safl_unit.proofs.Common.{Builds, ◌*◌, ◌+◌}
use Rattle.safl_term.specs.Sizes.{body_nodes}
use Rattle.safl_unit.proofs.equations.Outcoming.{OutcomesUpTo}
use Rattle.safl_unit.proofs.bodies.lower_bodies.Given as goal

abbrev pub invariant-loop-f : goal.invariant-loop-f
invariant-loop-f l = record {
  built : Builds l.initial.net l.net (32 * body_nodes l.p.program l.f + 33 * l.f);
  done : OutcomesUpTo l.p.checked l.p.choice l.net l.pins l.f l.all;
}
