use Rattle.std.proofs.Common.{sym, arith}
use Rattle.safl_order.proofs.Moves.{next_known}
use Rattle.safl_aig.proofs.places.push_next.Goals as goal

pub literals-requires : goal.literals-requires
literals-requires c =
    let k = next_known c.args.net.now c.requires.netlist c.args.s.0 c.in-Some.next.0 (sym c.in-Some.ensures) in
    omega (arith, k, c.requires.long)
