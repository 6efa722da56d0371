use Rattle.safl_check.proofs.Common.{map, shown_parameters, shown_slots, slot_of, take, ◌≡◌}
use Rattle.safl_check.proofs.heads.make_slots.Given as goal

abbrev pub invariant-loop-param : goal.invariant-loop-param
invariant-loop-param l = shown_slots l.all.items ≡ map slot_of (shown_parameters (take l.param-index l.params))
