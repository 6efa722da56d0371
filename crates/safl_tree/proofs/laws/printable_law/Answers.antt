use Rattle.safl_tree.proofs.PrintableText.{printable}
use Rattle.safl_tree.proofs.laws.printable_law.Goals as goal

pub returns : goal.returns
returns c = printable
