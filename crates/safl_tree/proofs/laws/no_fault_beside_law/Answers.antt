use Rattle.safl_tree.proofs.Texts.{not_both}
use Rattle.safl_tree.proofs.laws.no_fault_beside_law.Goals as goal

pub returns : goal.returns
returns c = not_both
