use Rattle.std.proofs.Common.{◌≡◌, ℕ, ◌-◌, ◌*◌, ◌≤◌, List, length}
use Rattle.safl_order.specs.Order.{Order}
use Rattle.safl_sim.specs.declared.step.Register.{Register}
use Rattle.safl_sim.specs.Steps.{Runs}
use Rattle.safl_sim.proofs.phases.run_marked.Given as goal

abbrev pub invariant-words : goal.invariant-words
invariant-words l = record {
  most : l.w ≤ l.end;
  count : l.count ≤ l.w * 64;
  long : length l.marks ≡ length l.initial.marks;
  runs : (o : Order) (regs : List Register) (now start : List ℕ) → Runs o l.plan.steps.items regs now l.plan.starts.items l.plan.readers.items start 0
      l.initial.values l.initial.marks → Runs o l.plan.steps.items regs now l.plan.starts.items l.plan.readers.items start (l.w * 64) l.values l.marks;
}

abbrev pub decreases-words : goal.decreases-words
decreases-words l = l.end - l.w
