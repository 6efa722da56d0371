use Rattle.safl_typing.proofs.Common.{BoundMarked, Known, shown_bindings, sites_bound}
use Rattle.std.proofs.Common.{◌≡◌, ◌+◌, take, min}
use Rattle.safl_typing.proofs.marks.add_bound_sites.Given as goal

abbrev pub invariant-loop-b : goal.invariant-loop-b
invariant-loop-b l = (k : Known) → BoundMarked k l.bound → l.total ≡ min 4001 (l.counted + sites_bound k (shown_bindings (take l.b-index l.bound)))
