use Rattle.std.proofs.Common.{◌≡◌, ◌-◌, List, length}
use Rattle.safl_net.specs.Making.{numbers}
use Rattle.safl_sim.specs.declared.step.Register.{Register}
use Rattle.safl_sim.specs.Readers.{AreLists}
use Rattle.safl_sim.proofs.table.push_steps.Given as goal

abbrev pub invariant-wires : goal.invariant-wires
invariant-wires l = record {
  long : length l.lists ≡ length l.net.signals;
  lists : (regs : List Register) → AreLists l.net (numbers l.wires) regs (length l.wires) 0 l.initial.lists → AreLists l.net (numbers l.wires) regs (length l.wires - l.i) 0 l.lists;
}
