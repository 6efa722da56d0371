use Rattle.safl_order.proofs.Common.{Walks, [], ◌≡◌}
use Rattle.safl_order.proofs.walk.Walk.run_registers.Given as goal

abbrev pub invariant-signals : goal.invariant-signals
invariant-signals l = record {
  walks : Walks l.net l.self.wires.items l.self.marks.items l.self.stack.items;
  empty : l.self.stack.items ≡ [];
}
