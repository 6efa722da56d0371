use Rattle.safl_aiger.proofs.ReadOnce.{no_fault}
use Rattle.safl_aiger.proofs.laws.no_fault_law.Goals as goal

pub returns : goal.returns
returns c = no_fault
