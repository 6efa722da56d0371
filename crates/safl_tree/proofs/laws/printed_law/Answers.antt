use Rattle.safl_tree.proofs.PrintedPrograms.{printed_spells}
use Rattle.safl_tree.proofs.laws.printed_law.Goals as goal

pub returns : goal.returns
returns c = printed_spells
