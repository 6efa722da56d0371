use Rattle.std.proofs.Common.{◌<◌, length, arith}
use Rattle.safl_aig.proofs.Nets.{output_known, output_is}
use Rattle.safl_aig.proofs.places.output_lits.Goals as goal

pub literals-requires : goal.literals-requires
literals-requires c =
    let n = c.args.net.now in
    let l : c.outputs.i < length n.outputs = let t = c.outputs-test.true in let e = c.outputs-i-end.ensures in omega (arith, t, e) in
    let k = output_known n c.requires.netlist c.outputs.i l in
    let e = output_is n c.outputs.i c.output_sig.result.0 c.output_sig.ensures in
    omega (arith, k, e, c.requires.long)
