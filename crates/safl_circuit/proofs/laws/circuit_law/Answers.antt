use Rattle.safl_circuit.proofs.Theorem.{schemes_are_circuits}
use Rattle.safl_circuit.proofs.laws.circuit_law.Goals as goal

pub returns : goal.returns
returns c = schemes_are_circuits
