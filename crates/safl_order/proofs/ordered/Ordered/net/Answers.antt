use Rattle.safl_order.proofs.Common.{IsAcyclic, numbers}
use Rattle.std.proofs.Common.{ap, subst}
use Rattle.safl_order.specs.Order.{Order}
use Rattle.safl_order.proofs.Ends.{order_acyclic}
use Rattle.safl_order.proofs.ordered.Ordered.net.Goals as goal

pub returns-clause-acyclic : goal.returns-clause-acyclic
returns-clause-acyclic c =
    subst IsAcyclic (ap (λ (o : Order). o.net) c.self.view_is) (order_acyclic c.self.inside.net (numbers c.self.inside.wires.items) c.self.invariant)
