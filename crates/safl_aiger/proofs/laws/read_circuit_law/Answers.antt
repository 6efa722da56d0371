use Rattle.safl_aiger.proofs.Deciding.{read_is_circuit}
use Rattle.safl_aiger.proofs.laws.read_circuit_law.Goals as goal

pub returns : goal.returns
returns c = read_is_circuit
