use Rattle.safl_reshape.proofs.Common.{drop, known, nodes_bounds, nodes_labelled, nodes_list, sites_bounds, sites_labelled, sites_list}
use Rattle.safl_tree.specs.Shown.{shown_trees, shown_bounds, shown_labelled}
use Rattle.safl_reshape.proofs.Counted.{Left}
use Rattle.safl_reshape.proofs.counts.+counting.Given as goal

abbrev pub invariant-count_all-loop-e : goal.invariant-count_all-loop-e
invariant-count_all-loop-e l = Left l.fn.before l.counts (sites_list (known l.heads l.unit) (shown_trees (drop l.e-index l.es)))
    (nodes_list (shown_trees (drop l.e-index l.es))) (sites_list (known l.heads l.unit) (shown_trees l.es)) (nodes_list (shown_trees l.es))

abbrev pub invariant-count_binds-loop-b : goal.invariant-count_binds-loop-b
invariant-count_binds-loop-b l = Left l.fn.before l.counts (sites_bounds (known l.heads l.unit) (shown_bounds (drop l.b-index l.binds)))
    (nodes_bounds (shown_bounds (drop l.b-index l.binds))) (sites_bounds (known l.heads l.unit) (shown_bounds l.binds)) (nodes_bounds (shown_bounds l.binds))

abbrev pub invariant-count_arms-loop-arm : goal.invariant-count_arms-loop-arm
invariant-count_arms-loop-arm l = Left l.fn.before l.counts (sites_labelled (known l.heads l.unit) (shown_labelled (drop l.arm-index l.arms)))
    (nodes_labelled (shown_labelled (drop l.arm-index l.arms))) (sites_labelled (known l.heads l.unit) (shown_labelled l.arms)) (nodes_labelled (shown_labelled l.arms))
