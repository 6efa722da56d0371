use Rattle.std.proofs.Common.{◌≡◌, ℕ, ◌-◌, ◌*◌, ◌≤◌, List, length}
use Rattle.safl_net.specs.Netlist.{Netlist}
use Rattle.safl_sim.specs.Readers.{RegistersAway}
use Rattle.safl_sim.specs.States.{AreAt, AreLow}
use Rattle.safl_sim.specs.Steps.{Waits, Goes}
use Rattle.safl_sim.specs.Writes.{ShowsWaiting}
use Rattle.safl_sim.proofs.phases.show_registers.Given as goal

abbrev pub invariant-words : goal.invariant-words
invariant-words l = record {
  most : l.w ≤ l.end;
  wide : length l.values ≡ length l.initial.values;
  long : length l.marks ≡ length l.initial.marks;
  low : AreLow l.plan.registers.items l.values l.state;
  room : length l.waiting ≡ length l.initial.waiting;
  shows : (now : List ℕ) → AreAt l.plan.registers.items l.state now → Waits l.plan.registers.items now l.initial.values l.initial.waiting → ShowsWaiting
      l.plan.registers.items now (l.w * 64) l.initial.values l.values l.waiting;
  goes : (n : Netlist) (ws now : List ℕ) → RegistersAway l.plan.registers.items ws → AreAt l.plan.registers.items l.state now → Goes n ws
      l.plan.steps.items l.plan.registers.items now l.plan.starts.items l.plan.readers.items l.initial.values l.values l.initial.marks l.marks;
}

abbrev pub decreases-words : goal.decreases-words
decreases-words l = l.end - l.w
