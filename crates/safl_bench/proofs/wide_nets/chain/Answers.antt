use Rattle.std.proofs.Common.{arith}
use Rattle.safl_net.proofs.Growth.{grows_on, width_kept}
use Rattle.safl_bench.proofs.wide_nets.chain.Goals as goal

pub turns-preserved : goal.turns-preserved
turns-preserved c =
    let t = c.turns.invariant in
    let g = c.in_ok-ends.ensures in
    record {
      tidy = g.tidy;
      grows = grows_on t.grows g.grows;
      few = (let a = t.few in let b = g.more in omega (arith, a, b));
      input = width_kept g.grows c.args.input.0 c.args.width t.input;
      last = g.last;
      other = g.other;
    }
