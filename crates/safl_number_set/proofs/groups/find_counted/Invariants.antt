use Rattle.safl_number_set.proofs.Common.{counted, shown_groups, sum, take, ◌≡◌, ◌≤◌}
use Rattle.safl_number_set.proofs.groups.find_counted.Given as goal

abbrev pub invariant-loop-k : goal.invariant-loop-k
invariant-loop-k l = record {
  start : l.before ≡ sum (take l.k (counted (shown_groups l.s)));
  reached : l.before ≤ l.place;
}
