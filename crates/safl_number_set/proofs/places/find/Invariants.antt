use Rattle.safl_number_set.proofs.Common.{sum, take, ◌≡◌, ◌≤◌}
use Rattle.safl_number_set.proofs.places.find.Given as goal

abbrev pub invariant-loop-at : goal.invariant-loop-at
invariant-loop-at l = record {
  start : l.before ≡ sum (take l.at l.counts);
  reached : l.before ≤ l.place;
}
