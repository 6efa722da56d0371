use Rattle.std.proofs.Common.{◌-◌}
use Rattle.safl_sim.proofs.Guarding.{GuardedTo}
use Rattle.safl_sim.proofs.guards.guards_of.Given as goal

abbrev pub invariant-places : goal.invariant-places
invariant-places l = GuardedTo l.steps l.starts l.readers (l.p - 1) l.guards.items
