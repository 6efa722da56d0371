use Rattle.safl_typing.proofs.Common.{bytes_eq, earlier, list_any, ◌≡◌}
use Rattle.safl_typing.proofs.repeats.is_among.Given as goal

abbrev pub invariant-loop-j : goal.invariant-loop-j
invariant-loop-j l = l.found ≡ list_any (bytes_eq l.name) (earlier l.bound l.j)
