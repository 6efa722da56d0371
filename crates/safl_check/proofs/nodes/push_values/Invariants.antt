use Rattle.std.proofs.Common.{◌≡◌, ◌++◌, drop}
use Rattle.safl_check.specs.Parts.{pending, values_of}
use Rattle.safl_check.proofs.nodes.push_values.Given as goal

-- those from i on are on the stack
abbrev pub invariant-loop-i : goal.invariant-loop-i
invariant-loop-i l = pending l.stack.items ≡ values_of (drop l.i l.binds) ++ pending l.fn.stack.items
