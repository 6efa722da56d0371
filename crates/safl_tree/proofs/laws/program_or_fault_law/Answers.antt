use Rattle.safl_tree.proofs.Texts.{program_or_fault}
use Rattle.safl_tree.proofs.laws.program_or_fault_law.Goals as goal

pub returns : goal.returns
returns c = program_or_fault
