use Rattle.safl_circuit.proofs.WholeCircuits.{schemes_whole}
use Rattle.safl_circuit.proofs.laws.whole_law.Goals as goal

pub returns : goal.returns
returns c = schemes_whole
