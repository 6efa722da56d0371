use Rattle.std.proofs.Common.{ℕ}
use Rattle.safl_sim.specs.Readers.{HasMarked}
use Rattle.safl_sim.proofs.readers.mark_readers.Given as goal

abbrev pub invariant-readers : goal.invariant-readers
invariant-readers l = (p : ℕ) → HasMarked l.plan.steps.items l.plan.readers.items l.from l.j p l.values l.initial.marks l.marks
