use Rattle.safl_check.proofs.Common.{drop, earlier, group_fault_at, shown_definitions, ◌≡◌}
use Rattle.safl_typing.specs.Walk.{joined_faults}
use Rattle.safl_check.proofs.groups.find_group_fault.Given as goal

-- the members that are left decide
abbrev pub invariant-loop-member : goal.invariant-loop-member
invariant-loop-member l = group_fault_at (shown_definitions l.defs) l.number ≡ joined_faults (earlier (shown_definitions l.defs) l.member) l.first.width (shown_definitions (drop l.member l.defs))
