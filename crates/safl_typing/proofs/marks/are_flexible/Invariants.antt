use Rattle.safl_typing.proofs.Common.{AreMarked, Known, all_flexible, shown_expressions}
use Rattle.std.proofs.Common.{◌≡◌, drop}
use Rattle.safl_typing.proofs.marks.are_flexible.Given as goal

-- the rest decides
abbrev pub invariant-loop-e : goal.invariant-loop-e
invariant-loop-e l = (k : Known) → AreMarked k l.es → all_flexible (shown_expressions l.es) ≡ all_flexible (shown_expressions (drop l.e-index l.es))
