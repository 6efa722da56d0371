use Rattle.safl_lower.proofs.Common.{IsTidy, LowersAll, nodes, nodes_in, shown_term, shown_terms}
use Rattle.std.proofs.Common.{◌≡◌, ◌+◌, ◌*◌, take}
use Rattle.safl_lower.proofs.terms.+terms.Given as goal

abbrev pub invariant-lower_all-loop-t : goal.invariant-lower_all-loop-t
invariant-lower_all-loop-t l = record {
  tidy : IsTidy l.net;
  lowered : LowersAll l.sites l.initial.slots.items l.path l.initial.net l.net l.initial.out l.out (record { ready = l.ready; values = l.values }) (shown_terms (take l.t-index l.ts));
  same : l.slots.items ≡ l.initial.slots.items;
}

abbrev pub decreases-lower_term : goal.decreases-lower_term
decreases-lower_term l = 2 * nodes (shown_term l.t.now)

abbrev pub decreases-lower_all : goal.decreases-lower_all
decreases-lower_all l = 2 * nodes_in (shown_terms l.ts.now) + 1
