use Rattle.safl_unit.proofs.Common.{Builds, ◌*◌}
use Rattle.safl_unit.proofs.equations.Sites.{SoFar}
use Rattle.safl_unit.proofs.returns.returns.Given as goal

abbrev pub invariant-loop-done : goal.invariant-loop-done
invariant-loop-done l = record {
  built : Builds l.initial.net l.net (5 * l.done);
  so_far : SoFar l.p.program l.p.choice l.net l.pins l.all l.done;
}
