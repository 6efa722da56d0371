use Rattle.std.proofs.Common.{length}
use Rattle.safl_vread.proofs.Numberings.{SoNumbered}
use Rattle.safl_vread.proofs.places.numbers_of.Given as goal

abbrev pub invariant-loop-i : goal.invariant-loop-i
invariant-loop-i l = SoNumbered l.order l.numbers.items (length l.scope.declarations.now) l.i
