use Rattle.safl_circuit.proofs.MirrorsKeep.{keeps_plan}
use Rattle.safl_circuit.proofs.laws.plan_carries_over.Goals as goal

pub returns : goal.returns
returns c = keeps_plan
