use Rattle.std.proofs.Common.{◌≡◌, length}
use Rattle.safl_core.proofs.make.nothing_kept.Given as goal

abbrev pub invariant-loop-made : goal.invariant-loop-made
invariant-loop-made l = length l.kept.items ≡ l._made
