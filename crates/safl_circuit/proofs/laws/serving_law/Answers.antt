use Rattle.safl_circuit.proofs.Theorem.{serving_schemes_are_circuits}
use Rattle.safl_circuit.proofs.laws.serving_law.Goals as goal

pub returns : goal.returns
returns c = serving_schemes_are_circuits
