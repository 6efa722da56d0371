use Rattle.safl_typing.proofs.Common.{shown_slots, shown_wanted, take, widths_of, ◌≡◌}
use Rattle.std.specs.Prelude.{map}
use Rattle.safl_typing.specs.Walk.{exactly}
use Rattle.safl_typing.proofs.wanted.wanted_arguments.Given as goal

abbrev pub invariant-loop-param : goal.invariant-loop-param
invariant-loop-param l = map shown_wanted l.all.items ≡ exactly (widths_of (shown_slots (take l.param-index l.params)))
