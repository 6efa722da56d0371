use Rattle.safl_unit.proofs.Common.{bit_of, map, take, ◌≡◌}
use Rattle.safl_unit.proofs.arrivals.load_bits.Given as goal

abbrev pub invariant-loop-i : goal.invariant-loop-i
invariant-loop-i l = record { same : l.bits.items ≡ map bit_of (take l.i l.loads) }
