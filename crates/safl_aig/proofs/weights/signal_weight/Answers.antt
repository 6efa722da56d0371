use Rattle.safl_aig.proofs.Common.{cell_of, sym}
use Rattle.safl_net.specs.Netlist.{width_of}
use Rattle.safl_aig.proofs.Nets.{cell_at}
use Rattle.safl_aig.proofs.weights.signal_weight.Goals as goal

pub cell_weight-requires-clause-fits : goal.cell_weight-requires-clause-fits
cell_weight-requires-clause-fits c =
    let n = c.args.net.now in
    let s = c.args.s.0 in
    (width_of n s, cell_at n c.signals-count.ensures.netlist s (cell_of c.in-Some.cell.now) (sym c.in-Some.ensures))
