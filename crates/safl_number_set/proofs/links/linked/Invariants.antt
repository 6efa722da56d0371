use Rattle.safl_number_set.proofs.Common.{AreLinkedFrom, length, ◌-◌, ◌≡◌}
use Rattle.safl_number_set.proofs.links.linked.Given as goal

abbrev pub invariant-loop-done : goal.invariant-loop-done
invariant-loop-done l = record {
  count : length l.links.heads.items ≡ l.count;
  linked : AreLinkedFrom (length l.group - l.done) l.group l.links;
}
