use Rattle.std.proofs.Common.{length}
use Rattle.safl_typing.proofs.terms.+add_slots.Given as goal

abbrev pub decreases-add_slots : goal.decreases-add_slots
decreases-add_slots l = length l.bound.now
