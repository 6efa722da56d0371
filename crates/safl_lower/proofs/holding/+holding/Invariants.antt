use Rattle.safl_lower.proofs.Common.{hold_calls, nodes, nodes_in, shown_term, shown_terms}
use Rattle.std.proofs.Common.{◌≡◌, ◌+◌, ◌*◌, false, take}
use Rattle.safl_lower.proofs.holding.+holding.Given as goal

abbrev pub invariant-hold_calls-loop-t : goal.invariant-hold_calls-loop-t
invariant-hold_calls-loop-t l = hold_calls (shown_terms (take l.t-index l.ts)) ≡ false

abbrev pub decreases-holds_calls : goal.decreases-holds_calls
decreases-holds_calls l = 2 * nodes (shown_term l.t.now)

abbrev pub decreases-hold_calls : goal.decreases-hold_calls
decreases-hold_calls l = 2 * nodes_in (shown_terms l.ts.now) + 1
