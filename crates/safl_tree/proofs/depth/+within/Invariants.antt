use Rattle.safl_tree.proofs.Common.{drop, shown_bounds, shown_labelled, shown_tree, shown_trees, ◌*◌, ◌+◌, ◌↔◌, ◌≤◌}
use Rattle.safl_tree.specs.Tree.{trees_of, binds_of, arms_of, deepest, deepest_bind, deepest_arm}
use Rattle.safl_tree.proofs.depth.+within.Given as goal

-- what is left is within the levels exactly where all is
abbrev pub invariant-are_within-loop-e : goal.invariant-are_within-loop-e
invariant-are_within-loop-e l = deepest (trees_of (shown_trees (drop l.e-index l.es))) ≤ l.levels ↔ deepest (trees_of (shown_trees l.es)) ≤ l.levels

abbrev pub invariant-is_let_within-loop-bind : goal.invariant-is_let_within-loop-bind
invariant-is_let_within-loop-bind l = deepest_bind (binds_of (shown_bounds (drop l.bind-index l.binds))) ≤ l.levels ↔ deepest_bind (binds_of (shown_bounds l.binds)) ≤ l.levels

abbrev pub invariant-are_arms_within-loop-arm : goal.invariant-are_arms_within-loop-arm
invariant-are_arms_within-loop-arm l = record {
  within : deepest_arm (arms_of (shown_labelled (drop l.arm-index l.arms)) (shown_tree l.default)) ≤ l.left ↔ deepest_arm (arms_of (shown_labelled l.arms) (shown_tree l.default)) ≤ l.levels;
  lower : l.left ≤ l.levels;
}

abbrev pub decreases-is_within : goal.decreases-is_within
decreases-is_within l = 3 * l.levels

abbrev pub decreases-is_choice_within : goal.decreases-is_choice_within
decreases-is_choice_within l = 3 * l.levels + 1

abbrev pub decreases-is_let_within : goal.decreases-is_let_within
decreases-is_let_within l = 3 * l.levels + 1

abbrev pub decreases-is_case_within : goal.decreases-is_case_within
decreases-is_case_within l = 3 * l.levels + 2

abbrev pub decreases-are_arms_within : goal.decreases-are_arms_within
decreases-are_arms_within l = 3 * l.levels + 1

abbrev pub decreases-are_within : goal.decreases-are_within
decreases-are_within l = 3 * l.levels + 1
