use Rattle.std.proofs.Common.{◌≡◌, length}
use Rattle.safl_evaluate.proofs.PlansByBodies.{ArePlanned}
use Rattle.safl_evaluate.proofs.places.planned.Given as goal

abbrev pub invariant-loop-f : goal.invariant-loop-f
invariant-loop-f l = record {
  planned : ArePlanned l.c l.places.items l.bodies.items l.f l.at;
  places : length l.places.items ≡ 50000;
  bodies : length l.bodies.items ≡ l.c.program.functions;
}
