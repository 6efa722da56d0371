use Rattle.std.proofs.Common.{◌≡◌, ◌++◌, map}
use Rattle.safl_unit.specs.Ties.{sig_of, ties, function_ties}
use Rattle.safl_unit.proofs.finish.add_functions.Given as goal

abbrev pub invariant-loop-f : goal.invariant-loop-f
invariant-loop-f l = l.all.items ≡ l.initial.all.items ++ map sig_of (ties (function_ties l.c.program l.c.names l.next.units.items l.next.members.items) l.f)
