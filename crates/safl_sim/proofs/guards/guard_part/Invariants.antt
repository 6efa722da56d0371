use Rattle.safl_sim.proofs.Guarding.{PartTo}
use Rattle.safl_sim.proofs.guards.guard_part.Given as goal

abbrev pub invariant-readers : goal.invariant-readers
invariant-readers l = PartTo l.steps l.readers l.place l.from l.j l.initial.guards l.guards
