use Rattle.std.proofs.Common.{◌<◌, length, sym, subst, arith}
use Rattle.safl_aig.proofs.Nets.{output_known, output_is}
use Rattle.safl_aig.proofs.places.output_names.Goals as goal

pub width-width-requires : goal.width-width-requires
width-width-requires c =
    let n = c.args.net.now in
    let l : c.outputs.i < length n.outputs = let t = c.outputs-test.true in let e = c.outputs-i-end.ensures in omega (arith, t, e) in
    subst (λ k. k < length n.signals) (sym (output_is n c.outputs.i c.output_sig.result.0 c.output_sig.ensures)) (output_known n c.signals-count.ensures.netlist c.outputs.i l)
