use Rattle.std.proofs.Common.{◌≡◌, ◌++◌, drop}
use Rattle.safl_net.specs.Making.{numbers}
use Rattle.safl_sim.specs.Places.{inputs_from, inputs_of}
use Rattle.safl_sim.proofs.parts.inputs_of.Given as goal

abbrev pub invariant-signals : goal.invariant-signals
invariant-signals l = numbers l.inputs.items ++ inputs_from (drop l.i l.net.signals) l.i ≡ inputs_of l.net
