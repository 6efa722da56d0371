use Rattle.safl_order.proofs.Moves.{next_known, number_some}
use Rattle.safl_order.proofs.walk.Walk.visit_next.Goals as goal

pub visit-requires-clause-known : goal.visit-requires-clause-known
visit-requires-clause-known c = next_known c.args.net.now c.requires.walks.made c.args.s.0 c.in-Some.next.0 (number_some c.next.result c.in-Some.next _ c.in-Some.is c.next.ensures)
