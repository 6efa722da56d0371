use Rattle.safl_sim.specs.States.{AreReset}
use Rattle.safl_sim.proofs.parts.states_of.Given as goal

abbrev pub invariant-registers : goal.invariant-registers
invariant-registers l = AreReset l.net l.registers l.i l.numbers.items
