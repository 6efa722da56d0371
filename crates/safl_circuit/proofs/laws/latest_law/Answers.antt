use Rattle.safl_circuit.proofs.Theorem.{latest_is_soon}
use Rattle.safl_circuit.proofs.laws.latest_law.Goals as goal

pub returns : goal.returns
returns c = latest_is_soon
