use Rattle.safl_net.specs.Making.{numbers}
use Rattle.safl_sim.proofs.Builds.{StepsTo}
use Rattle.safl_sim.proofs.Nearing.{NearsTo}
use Rattle.safl_sim.proofs.parts.steps_of.Given as goal

abbrev pub invariant-wires : goal.invariant-wires
invariant-wires l = record { steps : StepsTo l.net (numbers l.wires) l.steps.items l.i; near : NearsTo l.starts l.readers l.steps.items l.masks.items l.i }
