use Rattle.safl_tree.proofs.Texts.{one_program}
use Rattle.safl_tree.proofs.laws.one_program_law.Goals as goal

pub returns : goal.returns
returns c = one_program
