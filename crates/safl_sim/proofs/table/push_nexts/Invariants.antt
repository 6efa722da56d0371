use Rattle.std.proofs.Common.{◌≡◌, ◌+◌, ◌-◌, ℕ, List, length}
use Rattle.safl_net.specs.Netlist.{Netlist}
use Rattle.safl_sim.specs.Marks.{first_register}
use Rattle.safl_sim.specs.Readers.{AreLists}
use Rattle.safl_sim.proofs.table.push_nexts.Given as goal

abbrev pub invariant-registers : goal.invariant-registers
invariant-registers l = record {
  long : length l.lists ≡ length l.initial.lists;
  lists : (n : Netlist) (ws : List ℕ) → l.first ≡ first_register (length ws) → AreLists n ws l.registers (l.first + length l.registers) 0
      l.initial.lists → AreLists n ws l.registers (l.first + (length l.registers - l.i)) 0 l.lists;
}
