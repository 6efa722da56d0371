use Rattle.safl_typing.proofs.Common.{earlier, placed, repeated, shown_bindings}
use Rattle.std.proofs.Common.{◌≡◌, [], drop}
use Rattle.safl_typing.proofs.repeats.find_repeated.Given as goal

-- the rest decides
abbrev pub invariant-loop-i : goal.invariant-loop-i
invariant-loop-i l = repeated [] (placed (shown_bindings l.bound)) ≡ repeated (earlier l.bound l.i) (placed (shown_bindings (drop l.i l.bound)))
