use Rattle.safl_sim.proofs.Nearing.{NearTo}
use Rattle.safl_sim.proofs.near.near_of.Given as goal

abbrev pub invariant-readers : goal.invariant-readers
invariant-readers l = NearTo l.readers l.from l.j l.to l.word l.mask l.first
