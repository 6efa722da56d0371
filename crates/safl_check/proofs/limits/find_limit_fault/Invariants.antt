use Rattle.safl_check.proofs.Common.{heads, shown_definitions}
use Rattle.safl_check.proofs.LimitsInOrder.{IsSearched}
use Rattle.safl_check.proofs.limits.find_limit_fault.Given as goal

-- the rest decides, and the counts are within their limits
abbrev pub invariant-loop-number : goal.invariant-loop-number
invariant-loop-number l = IsSearched (heads (shown_definitions l.defs)) l.defs l.number l.unit l.sites l.nodes
