use Rattle.safl_sites.specs.Filling.{IsFilled}
use Rattle.safl_sites.proofs.fill.fill.Given as goal

abbrev pub invariant-loop-f : goal.invariant-loop-f
invariant-loop-f l = IsFilled l.c.program l.f l.bodies.items l.units.items l.after.items
