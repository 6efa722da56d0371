use Rattle.safl_order.specs.Walk.{Walks, Goes, work}
use Rattle.safl_order.proofs.walk.Walk.drain.Given as goal

abbrev pub invariant-steps : goal.invariant-steps
invariant-steps l = record {
  walks : Walks l.net l.self.wires.items l.self.marks.items l.self.stack.items;
  goes : Goes l.initial.self.marks.items l.self.marks.items;
}

abbrev pub decreases-steps : goal.decreases-steps
decreases-steps l = work l.self.marks.items l.self.stack.items
