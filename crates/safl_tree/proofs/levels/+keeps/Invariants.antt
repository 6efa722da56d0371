use Rattle.safl_tree.proofs.Common.{arms_of, binds_of, drop, trees_of, ◌*◌, ◌+◌, ◌↔◌, ◌≤◌}
use Rattle.safl_tree.specs.Shown.{shown_tree, shown_trees, shown_bounds, shown_labelled}
use Rattle.safl_tree.specs.Keeps.{PartsKeep, BindingsKeep, ArmsKeep}
use Rattle.safl_tree.proofs.levels.+keeps.Given as goal

-- what is left keeps the limits exactly where all does
abbrev pub invariant-parts_keep-loop-e : goal.invariant-parts_keep-loop-e
invariant-parts_keep-loop-e l = PartsKeep l.place l.levels l.depth (trees_of (shown_trees (drop l.e-index l.es))) ↔ PartsKeep l.place l.levels l.depth (trees_of (shown_trees l.es))

abbrev pub invariant-bindings_keep-loop-b : goal.invariant-bindings_keep-loop-b
invariant-bindings_keep-loop-b l = BindingsKeep l.levels l.depth (binds_of (shown_bounds (drop l.b-index l.bs))) ↔ BindingsKeep l.levels l.depth (binds_of (shown_bounds l.bs))

abbrev pub invariant-arms_keep-loop-arm : goal.invariant-arms_keep-loop-arm
invariant-arms_keep-loop-arm l = record {
  keeps : ArmsKeep l.left l.under (arms_of (shown_labelled (drop l.arm-index l.arms)) (shown_tree l.default)) ↔ ArmsKeep l.levels l.depth (arms_of (shown_labelled l.arms) (shown_tree l.default));
  lower : l.under ≤ l.depth;
}

abbrev pub decreases-keeps : goal.decreases-keeps
decreases-keeps l = 5 * l.depth

abbrev pub decreases-choice_keeps : goal.decreases-choice_keeps
decreases-choice_keeps l = 5 * l.depth + 1

abbrev pub decreases-bindings_keep : goal.decreases-bindings_keep
decreases-bindings_keep l = 5 * l.depth + 1

abbrev pub decreases-arms_keep : goal.decreases-arms_keep
decreases-arms_keep l = 5 * l.depth + 1

abbrev pub decreases-cases_keep : goal.decreases-cases_keep
decreases-cases_keep l = 5 * l.depth + 2

abbrev pub decreases-operands_keep : goal.decreases-operands_keep
decreases-operands_keep l = 5 * l.depth + 4

abbrev pub decreases-binary_keeps : goal.decreases-binary_keeps
decreases-binary_keeps l = 5 * l.depth + 3

abbrev pub decreases-parts_keep : goal.decreases-parts_keep
decreases-parts_keep l = 5 * l.depth + 2

abbrev pub decreases-part_keeps : goal.decreases-part_keeps
decreases-part_keeps l = 5 * l.depth + 1
