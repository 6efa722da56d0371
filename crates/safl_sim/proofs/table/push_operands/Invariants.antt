use Rattle.std.proofs.Common.{◌≡◌, ◌+◌, ℕ, List, length, Some, slice_get}
use Rattle.safl_net.specs.Netlist.{Netlist}
use Rattle.safl_net.specs.Making.{numbers}
use Rattle.safl_order.specs.Order.{operands_of}
use Rattle.safl_sim.specs.declared.step.Register.{Register}
use Rattle.safl_sim.specs.Readers.{AreLists}
use Rattle.safl_sim.proofs.table.push_operands.Given as goal

abbrev pub invariant-operands : goal.invariant-operands
invariant-operands l = record {
  long : length l.lists ≡ length l.initial.lists;
  lists : (n : Netlist) (ws : List ℕ) (regs : List Register) (s : ℕ) → slice_get ws l.k ≡ Some s → operands_of n s ≡ numbers l.operands → AreLists n
      ws regs (l.k + 1) 0 l.initial.lists → AreLists n ws regs (l.k + 1) l.i l.lists;
}
