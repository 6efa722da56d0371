use Rattle.safl_net.specs.Making.{numbers}
use Rattle.safl_aig.proofs.Connecting.{Underway}
use Rattle.safl_aig.proofs.wiring.connect.Given as goal

abbrev pub invariant-wires : goal.invariant-wires
invariant-wires l = Underway l.net (numbers l.wires) l.graph l.table.items l.i
