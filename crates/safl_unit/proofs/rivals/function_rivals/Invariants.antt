use Rattle.safl_unit.proofs.Common.{Builds, on_from, ◌*◌}
use Rattle.safl_unit.specs.Edges.{one_below, rival, ShowsBelow}
use Rattle.safl_unit.proofs.rivals.function_rivals.Given as goal

abbrev pub invariant-loop-f : goal.invariant-loop-f
invariant-loop-f l = record {
  built : Builds l.initial.net l.net (3 * l.f);
  table : ShowsBelow l.net l.all.items l.f (λ v f. one_below (rival l.p.program (on_from v l.entries) f) l.p.program.functions);
}
