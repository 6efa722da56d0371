use Rattle.safl_unit.proofs.Common.{bit_or, map, take, ◌≡◌}
use Rattle.safl_unit.proofs.controls.bits_or.Given as goal

abbrev pub invariant-loop-load : goal.invariant-loop-load
invariant-loop-load l = l.bits.items ≡ map (bit_or l.other) (take l.load-index l.loads)
