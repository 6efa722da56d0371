use Rattle.std.proofs.Common.{◌≡◌, ◌++◌, drop}
use Rattle.safl_check.specs.Parts.{pending, arms_of}
use Rattle.safl_check.proofs.nodes.push_arms.Given as goal

-- those from i on are on the stack
abbrev pub invariant-loop-i : goal.invariant-loop-i
invariant-loop-i l = pending l.stack.items ≡ arms_of (drop l.i l.arms) ++ pending l.fn.stack.items
