use Rattle.safl_sim.proofs.Nearing.{GroupedTo}
use Rattle.safl_sim.proofs.near.groups_of.Given as goal

abbrev pub invariant-registers : goal.invariant-registers
invariant-registers l = GroupedTo l.starts l.readers l.registers l.groups.items l.i
