use Rattle.safl_order.proofs.Common.{Stop, numbers, slice_get_within}
use Rattle.std.proofs.Common.{arith, ap, subst, refl, is_some}
use Rattle.safl_order.specs.Walk.{IsStop, IsOpenLoop}
use Rattle.safl_order.proofs.Ends.{order_done, order_acyclic}
use Rattle.safl_order.proofs.Loops.{loop_found}
use Rattle.safl_order.proofs.ordered.order.Goals as goal

pub invariant_of-result : goal.invariant_of-result
invariant_of-result c =
    let w = c.run.new.self in
    order_done c.args.net w.wires.items w.marks.items w.stack.items c.run.ensures.walks c.in-Ok-run.ensures.done (c.first_unset.ensures.none.0 (ap is_some c.in_default.is))

pub cycle-requires : goal.cycle-requires
cycle-requires c =
    let w = c.run.new.self in
    let o : IsOpenLoop c.args.net w.stack.items c.in-Err-Loop.place = subst (λ (x : Stop). IsStop c.args.net w.stack.items x) c.in-Err-Loop.field-0-is c.in-Err-Loop.ensures.stop in
    let a = slice_get_within w.stack.items c.in-Err-Loop.place o.low o.at in
    let b = w.stack.ok.0 in
    omega (arith, a, b)

pub returns-in-Ok-cycle-clause-refused : goal.returns-in-Ok-cycle-clause-refused
returns-in-Ok-cycle-clause-refused c =
    let w = c.run.new.self in
    let o : IsOpenLoop c.args.net w.stack.items c.in-Err-Loop.place = subst (λ (x : Stop). IsStop c.args.net w.stack.items x) c.in-Err-Loop.field-0-is c.in-Err-Loop.ensures.stop in (
      refl,
      c.first_unset.ensures.none.0 (ap is_some c.in_default.is),
      loop_found c.args.net w.wires.items w.marks.items w.stack.items
          c.in-Err-Loop.place c.in-Ok-cycle.wires.items c.run.ensures.walks o c.in-Ok-cycle.ensures,
    )

pub returns-in-Ok-run-clause-acyclic : goal.returns-in-Ok-run-clause-acyclic
returns-in-Ok-run-clause-acyclic c =
    let w = c.run.new.self in
    order_acyclic c.args.net (numbers w.wires.items)
    (order_done c.args.net w.wires.items w.marks.items w.stack.items c.run.ensures.walks c.in-Ok-run.ensures.done (c.first_unset.ensures.none.0 (ap is_some c.in_default.is)))
