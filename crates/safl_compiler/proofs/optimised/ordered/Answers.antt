use Rattle.std.proofs.Common.{subst}
use Rattle.safl_net.specs.Making.{numbers}
use Rattle.safl_net.proofs.SignalKinds.{set_at}
use Rattle.safl_order.specs.Refusals.{RefusesOrder}
use Rattle.safl_order.specs.declared.ordered.OrderErr.{OrderErr}
use Rattle.safl_compiler.proofs.optimised.ordered.Goals as goal

pub unreachable-requires : goal.unreachable-requires
unreachable-requires c =
    let r = subst (λ (e : OrderErr). RefusesOrder c.args.net e) c.in-Err-Loop.field-0-is c.in-Err-Loop.ensures.refused in
    c.loops_are_cyclic.ensures c.args.net (numbers c.in-Err-Loop.field-0-0.items) r.2 c.requires.acyclic

pub unreachable-requires-in-Err-Unset : goal.unreachable-requires-in-Err-Unset
unreachable-requires-in-Err-Unset c =
    let r = subst (λ (e : OrderErr). RefusesOrder c.args.net e) c.in-Err-Unset.field-0-is c.in-Err-Unset.ensures.refused in
    r.1.unset (set_at c.args.net c.in-Err-Unset.field-0-0.0 c.requires.set r.1.known)
