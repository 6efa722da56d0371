use Rattle.std.proofs.Common.{◌<◌, length, sym, subst}
use Rattle.safl_aig.proofs.Nets.{output_known, output_is}
use Rattle.safl_aig.proofs.weights.output_weight.Goals as goal

pub bus_width-requires : goal.bus_width-requires
bus_width-requires c =
    let n = c.args.net.now in
    subst (λ k. k < length n.signals) (sym (output_is n c.args.i c.output_sig.result.0 c.output_sig.ensures)) (output_known n c.signals-count.ensures.netlist c.args.i c.requires)
