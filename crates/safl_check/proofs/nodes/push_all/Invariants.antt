use Rattle.safl_check.proofs.Common.{drop, pending, ◌++◌, ◌≡◌}
use Rattle.safl_tree.specs.Shown.{shown_trees}
use Rattle.safl_check.proofs.nodes.push_all.Given as goal

-- those from i on are on the stack
abbrev pub invariant-loop-i : goal.invariant-loop-i
invariant-loop-i l = pending l.stack.items ≡ shown_trees (drop l.i l.es) ++ pending l.fn.stack.items
