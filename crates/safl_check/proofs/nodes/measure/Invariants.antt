use Rattle.safl_check.proofs.Common.{known, rewritten, shown_tree}
use Rattle.safl_check.specs.Parts.{pending, total_nodes}
use Rattle.safl_check.proofs.CountsByParts.{IsMeasured}
use Rattle.safl_check.proofs.nodes.measure.Given as goal

abbrev pub invariant-loop-e : goal.invariant-loop-e
invariant-loop-e l = IsMeasured (known l.heads l.unit) l.sites_before l.nodes_before (rewritten (shown_tree l.body)) l.long_let l.sites l.nodes (pending l.stack.items)

-- the nodes that are to come
abbrev pub decreases-loop-e : goal.decreases-loop-e
decreases-loop-e l = total_nodes (pending l.stack.items)
