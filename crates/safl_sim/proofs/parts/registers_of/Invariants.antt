use Rattle.safl_sim.specs.Steps.{AreRegisters}
use Rattle.safl_sim.proofs.parts.registers_of.Given as goal

abbrev pub invariant-signals : goal.invariant-signals
invariant-signals l = AreRegisters l.net l.i l.registers.items
