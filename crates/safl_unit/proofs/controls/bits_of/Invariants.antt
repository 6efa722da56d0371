use Rattle.safl_unit.proofs.Common.{load_bit, map, take, ◌≡◌}
use Rattle.safl_unit.proofs.controls.bits_of.Given as goal

abbrev pub invariant-loop-load : goal.invariant-loop-load
invariant-loop-load l = l.bits.items ≡ map load_bit (take l.load-index l.loads)
