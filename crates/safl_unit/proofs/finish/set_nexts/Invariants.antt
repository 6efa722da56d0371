use Rattle.safl_unit.proofs.Common.{map, next_kind, take, with_kinds, ◌≡◌}
use Rattle.safl_unit.proofs.finish.set_nexts.Given as goal

abbrev pub invariant-loop-i : goal.invariant-loop-i
invariant-loop-i l = l.net ≡ with_kinds l.initial.net l.first (map next_kind (take l.i l.all))
