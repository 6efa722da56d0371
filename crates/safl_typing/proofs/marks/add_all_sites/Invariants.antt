use Rattle.safl_typing.proofs.Common.{AreMarked, Known, shown_expressions, sites_in}
use Rattle.std.proofs.Common.{◌≡◌, ◌+◌, take, min}
use Rattle.safl_typing.proofs.marks.add_all_sites.Given as goal

abbrev pub invariant-loop-e : goal.invariant-loop-e
invariant-loop-e l = (k : Known) → AreMarked k l.es → l.total ≡ min 4001 (l.counted + sites_in k (shown_expressions (take l.e-index l.es)))
