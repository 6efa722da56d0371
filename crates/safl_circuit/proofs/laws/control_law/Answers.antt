use Rattle.safl_circuit.proofs.Blind.{control_is_blind}
use Rattle.safl_circuit.proofs.laws.control_law.Goals as goal

pub returns : goal.returns
returns c = control_is_blind
