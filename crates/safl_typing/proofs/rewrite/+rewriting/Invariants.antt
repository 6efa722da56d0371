use Rattle.safl_typing.proofs.Common.{AreMarked, BoundMarked, IsMarked, known, shown_bindings, shown_expression, shown_expressions}
use Rattle.std.proofs.Common.{◌≡◌, ◌-◌, length, take, drop}
use Rattle.safl_tree.specs.Tree.{Tree, trees_of, binds_of, arms_of}
use Rattle.safl_tree.specs.Shown.{shown_trees, shown_bounds, shown_labelled}
use Rattle.safl_typing.specs.Rewriting.{rewritten, rewritten_all, rewritten_binds, rewritten_arms}
use Rattle.safl_typing.proofs.rewrite.+rewriting.Given as goal

abbrev pub invariant-rewrite_all-loop-e : goal.invariant-rewrite_all-loop-e
invariant-rewrite_all-loop-e l = record {
  rewritten : shown_expressions l.all.items ≡ rewritten_all (trees_of (shown_trees (take l.e-index l.es)));
  marked : AreMarked (known l.heads l.unit) l.all.items;
}

abbrev pub invariant-rewrite_binds-loop-b : goal.invariant-rewrite_binds-loop-b
invariant-rewrite_binds-loop-b l = record {
  rewritten : shown_bindings l.all.items ≡ rewritten_binds (binds_of (shown_bounds (take l.b-index l.binds)));
  marked : BoundMarked (known l.heads l.unit) l.all.items;
}

abbrev pub invariant-rewrite_arms-loop-done : goal.invariant-rewrite_arms-loop-done
invariant-rewrite_arms-loop-done l = record {
  rewritten : (t : Tree) → shown_expression l.initial.body ≡ rewritten t → shown_expression l.body ≡ rewritten_arms l.place (arms_of (shown_labelled (drop (length l.arms - l.done) l.arms)) t);
  marked : IsMarked (known l.heads l.unit) l.initial.body → IsMarked (known l.heads l.unit) l.body;
}
