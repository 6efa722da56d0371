use Rattle.safl_tree.proofs.Texts.{one_fault}
use Rattle.safl_tree.proofs.laws.one_fault_law.Goals as goal

pub returns : goal.returns
returns c = one_fault
