use Rattle.safl_tool.proofs.Common.{AreKnown, HasLine, List, Netlist, RefusesBy, Sig, inr, map, name_at, numbers, subst, sym}
use Rattle.safl_net.proofs.SignalKinds.{set_at}
use Rattle.safl_order.specs.Refusals.{RefusesOrder}
use Rattle.safl_order.specs.declared.ordered.OrderErr.{OrderErr}
use Rattle.safl_vparse.specs.Parsed.{RefusesText}
use Rattle.safl_vparse.specs.declared.error.VErr.{VErr}
use Rattle.safl_tool.specs.VerilogLines.{loop_line}
use Rattle.safl_task.specs.declared.status.Status.TheVariants as status
use Rattle.safl_tool.proofs.Ran.{fault_refuses, loop_refuses, loop_known}
use Rattle.safl_tool.proofs.run_file.ordered_net.Goals as goal

pub returns-in-Err-Refused-clause-refused : goal.returns-in-Err-Refused-clause-refused
returns-in-Err-Refused-clause-refused c =
    fault_refuses c.args.name.now c.args.text.now c.in-Err-Refused.fault c.refusal_of_fault.result
    (subst (λ (e : VErr). RefusesText c.args.text.now e) c.in-Err-Refused.field-0-is c.in-Err-Refused.ensures.refused) (inr (rw c.in-Err-Refused.field-0-is at c.refusal_of_fault.ensures))

pub refusal_of_loop-requires : goal.refusal_of_loop-requires
refusal_of_loop-requires c =
    let r = subst (λ (e : OrderErr). RefusesOrder c.in-Ok.net e) c.in-Err-Loop.field-0-is c.in-Err-Loop.ensures.refused in
    subst (λ (xs : List Sig). AreKnown c.in-Err-Loop.net (numbers xs)) (sym c.deref.ensures.value)
    (subst (λ (m : Netlist). AreKnown m (numbers c.in-Err-Loop.wires.items)) (sym r.0) (loop_known c.in-Ok.net (numbers c.in-Err-Loop.wires.items) r.2))

pub returns-in-Err-Loop-clause-refused : goal.returns-in-Err-Loop-clause-refused
returns-in-Err-Loop-clause-refused c =
    let r = subst (λ (e : OrderErr). RefusesOrder c.in-Ok.net e) c.in-Err-Loop.field-0-is c.in-Err-Loop.ensures.refused in
    loop_refuses c.loops_are_cyclic.ensures c.args.name.now c.args.text.now c.in-Ok.net (numbers c.in-Err-Loop.wires.items) c.refusal_of_loop.result c.in-Ok.ensures.net r.2
    (subst (λ (m : Netlist). RefusesBy (HasLine status.VerilogRefused (loop_line c.args.name.now (map (name_at m) (numbers c.in-Err-Loop.wires.items)))) c.refusal_of_loop.result) r.0
    (subst (λ (xs : List Sig). RefusesBy (HasLine status.VerilogRefused (loop_line c.args.name.now (map (name_at c.in-Err-Loop.net) (numbers xs))))
    c.refusal_of_loop.result) c.deref.ensures.value c.refusal_of_loop.ensures))

pub unreachable-requires : goal.unreachable-requires
unreachable-requires c =
    let r = subst (λ (e : OrderErr). RefusesOrder c.in-Ok.net e) c.in-Err-Unset.field-0-is c.in-Err-Unset.ensures.refused in
    r.1.unset (set_at c.in-Ok.net c.in-Err-Unset.field-0-0.0 c.in-Ok.ensures.whole.set r.1.known)
