use Rattle.std.proofs.Common.{◌≡◌, ◌++◌, map}
use Rattle.safl_unit.specs.Ties.{sig_of, ties, body_ties}
use Rattle.safl_unit.proofs.finish.add_bodies.Given as goal

abbrev pub invariant-loop-f : goal.invariant-loop-f
invariant-loop-f l = l.all.items ≡ l.initial.all.items ++ map sig_of (ties (body_ties l.c.names l.controls) l.f)
