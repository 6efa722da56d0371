use Rattle.std.proofs.Common.{◌≡◌, ℕ, ◌+◌, ◌-◌, ◌*◌, ◌≤◌, List, length}
use Rattle.safl_order.specs.Order.{Order}
use Rattle.safl_sim.specs.declared.step.Register.{Register}
use Rattle.safl_sim.specs.Marks.{holding}
use Rattle.safl_sim.specs.Steps.{Runs}
use Rattle.safl_sim.proofs.phases.run_word.Given as goal

abbrev pub invariant-steps : goal.invariant-steps
invariant-steps l = record {
  long : length l.marks ≡ length l.initial.marks;
  from : l.word * 64 + l.count ≤ l.place;
  one : l.turn ≤ 1;
  to : l.place ≤ (l.word + 1) * 64;
  runs : (o : Order) (regs : List Register) (now start : List ℕ) → Runs o l.plan.steps.items regs now l.plan.starts.items l.plan.readers.items start
      (l.word * 64) l.initial.values l.initial.marks → Runs o l.plan.steps.items regs now l.plan.starts.items l.plan.readers.items start l.place
      l.values (holding l.marks l.word l.held);
}

abbrev pub decreases-steps : goal.decreases-steps
decreases-steps l = (l.word + 1) * 64 - l.place
