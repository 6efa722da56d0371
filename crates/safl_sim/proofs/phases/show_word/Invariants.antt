use Rattle.std.proofs.Common.{◌≡◌, ℕ, ◌+◌, ◌-◌, ◌*◌, ◌≤◌, List, length}
use Rattle.safl_net.specs.Netlist.{Netlist}
use Rattle.safl_sim.specs.Marks.{holding}
use Rattle.safl_sim.specs.Readers.{RegistersAway}
use Rattle.safl_sim.specs.States.{AreAt, AreLow}
use Rattle.safl_sim.specs.Steps.{Goes}
use Rattle.safl_sim.specs.Writes.{ShowsWaiting}
use Rattle.safl_sim.proofs.phases.show_word.Given as goal

abbrev pub invariant-registers : goal.invariant-registers
invariant-registers l = record {
  from : l.word * 64 ≤ l.place;
  wide : length l.values ≡ length l.initial.values;
  long : length l.marks ≡ length l.initial.marks;
  low : AreLow l.plan.registers.items l.values l.state;
  shows : (now start : List ℕ) → AreAt l.plan.registers.items l.state now → ShowsWaiting l.plan.registers.items now (l.word * 64) start l.initial.values
      l.waiting → ShowsWaiting l.plan.registers.items now l.place start l.values (holding l.waiting l.word l.held);
  goes : (n : Netlist) (ws now : List ℕ) → RegistersAway l.plan.registers.items ws → AreAt l.plan.registers.items l.state now → Goes n ws
      l.plan.steps.items l.plan.registers.items now l.plan.starts.items l.plan.readers.items l.initial.values l.values l.initial.marks l.marks;
}

abbrev pub decreases-registers : goal.decreases-registers
decreases-registers l = (l.word + 1) * 64 - l.place
