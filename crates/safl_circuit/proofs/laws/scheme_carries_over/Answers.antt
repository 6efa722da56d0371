use Rattle.safl_circuit.proofs.MirrorsKeep.{keeps_scheme}
use Rattle.safl_circuit.proofs.laws.scheme_carries_over.Goals as goal

pub returns : goal.returns
returns c = keeps_scheme
