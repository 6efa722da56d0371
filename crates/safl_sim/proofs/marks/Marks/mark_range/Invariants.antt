use Rattle.safl_sim.specs.Marks.{HasRange}
use Rattle.safl_sim.proofs.marks.Marks.mark_range.Given as goal

abbrev pub invariant-numbers : goal.invariant-numbers
invariant-numbers l = HasRange l.from l.i l.initial.self l.self
