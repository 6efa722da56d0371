use Rattle.safl_tree.proofs.Depths.{bodies_shallow}
use Rattle.safl_tree.proofs.laws.shallow_law.Goals as goal

pub returns : goal.returns
returns c = λ text p s. bodies_shallow p (c.printable_law.ensures text p s).kept
