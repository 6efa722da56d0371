use Rattle.safl_lower.proofs.Gathering.{Merging}
use Rattle.safl_lower.proofs.merge.merge.Given as goal

abbrev pub invariant-loop-call : goal.invariant-loop-call
invariant-loop-call l = record {
  merging : Merging l.fn.first l.fn.members l.initial.net l.net l.calls l.call-index l.loads.items;
}
