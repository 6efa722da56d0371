use Rattle.safl_labels.proofs.Common.{AreAllLike, nodes, nodes_in, shown_if, shown_term, shown_terms}
use Rattle.std.proofs.Common.{◌≡◌, false, ◌+◌, ◌*◌, take}
use Rattle.safl_labels.proofs.twins.+twins.Given as goal

abbrev pub decreases-compare : goal.decreases-compare
decreases-compare l = 10 * (nodes (shown_term l.t.now) + nodes (shown_term l.u.now)) + 8

abbrev pub decreases-compare_shapes : goal.decreases-compare_shapes
decreases-compare_shapes l = 10 * (nodes (shown_term l.t.now) + nodes (shown_term l.u.now)) + 7

abbrev pub decreases-compare_with_choice : goal.decreases-compare_with_choice
decreases-compare_with_choice l = 10 * (nodes (shown_term l.t.now) + nodes (shown_term l.u.now)) + 6

abbrev pub decreases-compare_left : goal.decreases-compare_left
decreases-compare_left l = 10 * (nodes (shown_if l.choice) + nodes (shown_term l.u.now)) + 5

abbrev pub decreases-compare_right : goal.decreases-compare_right
decreases-compare_right l = 10 * (nodes (shown_term l.t.now) + nodes (shown_if l.choice)) + 5

abbrev pub decreases-compare_choices : goal.decreases-compare_choices
decreases-compare_choices l = 10 * (nodes (shown_if l.choice) + nodes (shown_if l.other)) + 5

abbrev pub decreases-compare_across : goal.decreases-compare_across
decreases-compare_across l = 10 * (nodes (shown_if l.choice) + nodes (shown_if l.other)) + 4

abbrev pub decreases-compare_parts : goal.decreases-compare_parts
decreases-compare_parts l = 10 * (nodes_in (shown_terms l.ts.now) + nodes (shown_term l.u.now)) + 9

abbrev pub decreases-compare_calls : goal.decreases-compare_calls
decreases-compare_calls l = 10 * (nodes_in (shown_terms l.ts.now) + nodes (shown_term l.u.now)) + 9

abbrev pub decreases-compare_loops : goal.decreases-compare_loops
decreases-compare_loops l = 10 * (nodes_in (shown_terms l.ts.now) + nodes (shown_term l.u.now)) + 9

abbrev pub decreases-compare_lets : goal.decreases-compare_lets
decreases-compare_lets l = 10 * (nodes_in (shown_terms l.ts.now) + nodes (shown_term l.body.now) + nodes (shown_term l.u.now)) + 9

abbrev pub decreases-compare_all : goal.decreases-compare_all
decreases-compare_all l = 10 * (nodes_in (shown_terms l.ts.now) + nodes_in (shown_terms l.us.now)) + 9

abbrev pub invariant-compare_all-loop-i : goal.invariant-compare_all-loop-i
invariant-compare_all-loop-i l = l.is_apart ≡ false → AreAllLike l.walk (shown_terms (take l.i l.ts)) (shown_terms (take l.i l.us)) l.found.items
