use Rattle.std.proofs.Common.{◌≡◌, ℕ, length}
use Rattle.safl_sim.specs.Readers.{IsPart, HasMarked}
use Rattle.safl_sim.proofs.readers.mark_seeing.Given as goal

abbrev pub invariant-readers : goal.invariant-readers
invariant-readers l = record {
  long : length l.marks ≡ length l.initial.marks;
  marked : (p : ℕ) → IsPart l.plan.starts.items p l.from l.to → HasMarked l.plan.steps.items l.plan.readers.items l.from l.j p l.values l.initial.marks l.marks;
}
