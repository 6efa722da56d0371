use Rattle.safl_aiger.proofs.ReadOnce.{one_fault}
use Rattle.safl_aiger.proofs.laws.one_fault_law.Goals as goal

pub returns : goal.returns
returns c = one_fault
