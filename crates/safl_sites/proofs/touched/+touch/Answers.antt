use Rattle.safl_sites.proofs.Common.{arith, nil_from_length, rules, shown_term, some_nodes}
use Rattle.safl_sites.proofs.SetsTouched.{touch_if, touch_let, touch_op, touch_loop, touch_call, touch_more, touch_const, touch_nil, touch_var, touch_below, touch_past}
use Rattle.safl_sites.proofs.touched.+touch.Goals as goal
use Rattle.safl_sites.proofs.touched.+touch.Goals.{touch-else-low-slot-via-then-low-slot+else-slot-slots, touch-else-low-slot-via-else-low-slot}

pub touch-returns-in-If : goal.touch-returns-in-If
touch-returns-in-If t c = λ k. touch_if c.in-If.ensures (c.touch.ensures k) (c.touch-in-If.ensures k) (c.touch-in-If-2.ensures k)

pub touch-returns-in-Let : goal.touch-returns-in-Let
touch-returns-in-Let t c = λ k. touch_let c.in-Let.ensures (c.touch_in.ensures k) (c.touch-in-Let.ensures k)

pub touch-returns-in-Op : goal.touch-returns-in-Op
touch-returns-in-Op t c = λ k. touch_op c.in-Op.ensures (c.touch_in-in-Op.ensures k)

pub touch-returns-in-Call : goal.touch-returns-in-Call
touch-returns-in-Call t c = λ k. touch_call c.in-Call.ensures (c.touch_in-in-Call.ensures k)

pub touch-returns-in-Loop : goal.touch-returns-in-Loop
touch-returns-in-Loop t c = λ k. touch_loop c.in-Loop.ensures (c.touch_in-in-Loop.ensures k)

pub touch-returns-in-Const : goal.touch-returns-in-Const
touch-returns-in-Const t c = λ k. touch_const c.in-Const.ensures

pub touch-returns-then-slot-slots : goal.touch-returns-then-slot-slots
touch-returns-then-slot-slots t c = λ k. touch_var c.in-Var.ensures c.if-low-slot.true (c.union.ensures k)

pub touch-returns-else-low-slot : goal.touch-returns-else-low-slot
touch-returns-else-low-slot t c = λ k. elim c.else-low-slot.branch [
  | touch-else-low-slot-via-then-low-slot+else-slot-slots w ↦ touch_past c.in-Var.ensures (omega arith)
  | touch-else-low-slot-via-else-low-slot w ↦ touch_below c.in-Var.ensures (omega arith)
]

pub touch_in-touch_in-requires : goal.touch_in-touch_in-requires
touch_in-touch_in-requires t c = let some = some_nodes (shown_term c.in-Some.first.now) in search rules

pub touch_in-returns-in-Some : goal.touch_in-returns-in-Some
touch_in-returns-in-Some t c = λ k. rw c.in-Some.ensures.cases.0 (touch_more _ _ (c.touch.ensures k) (c.touch_in.ensures k))

pub touch_in-returns-in_default : goal.touch_in-returns-in_default
touch_in-returns-in_default t c = λ k. rw (nil_from_length c.args.ts.now c.in_default.ensures.cases) (touch_nil _ _ k)
