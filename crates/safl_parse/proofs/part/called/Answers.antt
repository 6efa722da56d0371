use Rattle.safl_tree.proofs.ShownTrees.{call_shows}
use Rattle.safl_parse.proofs.Rows.{cap_call}
use Rattle.safl_parse.proofs.part.called.Goals as goal

pub invariant_of-result : goal.invariant_of-result
invariant_of-result c = record { capped = cap_call c.args.name c.args.arguments.exprs c.args.place c.args.arguments.depth c.above-depth.result c.args.arguments.capped c.above-depth.ensures }

pub returns : goal.returns
returns c = call_shows c.args.name c.args.arguments.exprs c.args.place
