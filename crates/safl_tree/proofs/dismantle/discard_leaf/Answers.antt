use Rattle.safl_tree.proofs.Dismantling.{leaf_or_two}
use Rattle.safl_tree.proofs.dismantle.discard_leaf.Goals as goal

pub returns-in_default : goal.returns-in_default
returns-in_default c = leaf_or_two c.args.e c.into_node.result c.unplaced.result c.into_node.ensures c.unplaced.ensures c.in_default.not-Num c.in_default.not-Sized c.in_default.not-Var
