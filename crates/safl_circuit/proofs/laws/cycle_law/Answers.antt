use Rattle.safl_circuit.proofs.Theorem.{cycles_are_events}
use Rattle.safl_circuit.proofs.laws.cycle_law.Goals as goal

pub returns : goal.returns
returns c = cycles_are_events
