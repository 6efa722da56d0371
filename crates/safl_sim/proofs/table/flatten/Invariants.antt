use Rattle.safl_sim.specs.Readers.{AreFlat}
use Rattle.safl_sim.proofs.table.flatten.Given as goal

abbrev pub invariant-places : goal.invariant-places
invariant-places l = AreFlat l.lists l.starts.items l.readers.items l.p
