use Rattle.safl_unit.proofs.Common.{copy_kind, map, take, with_kinds, ◌≡◌}
use Rattle.safl_unit.proofs.finish.set_copies.Given as goal

abbrev pub invariant-loop-i : goal.invariant-loop-i
invariant-loop-i l = l.net ≡ with_kinds l.initial.net l.first (map copy_kind (take l.i l.all))
