use Rattle.safl_tree.proofs.ShownTrees.{op_shows}
use Rattle.safl_parse.proofs.Rows.{cap_op}
use Rattle.safl_parse.proofs.part.applied.Goals as goal

pub invariant_of-result : goal.invariant_of-result
invariant_of-result c = record { capped = cap_op c.args.op c.args.operands.exprs c.args.place c.args.operands.depth c.above-depth.result c.args.operands.capped c.above-depth.ensures }

pub returns : goal.returns
returns c = op_shows c.args.op c.args.operands.exprs c.args.place
