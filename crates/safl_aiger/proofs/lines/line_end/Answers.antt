use Rattle.std.proofs.Common.{arith}
use Rattle.safl_aiger.proofs.Cutting.{free_more, line_fed, line_ended}
use Rattle.safl_aiger.proofs.lines.line_end.Goals as goal

pub loop-end-preserved : goal.loop-end-preserved
loop-end-preserved c =
    let j = c.loop-end.invariant in
    let l = c.loop-end-test.true in
    record {
      low = (let a = j.low in omega (arith, a));
      high = omega (arith, l);
      free = free_more 10 c.args.text.now c.args.at c.loop-end.end 0 j.low l j.free c.if-text-end-ne10.true;
    }

pub returns-else-text-end-ne10-clause-line : goal.returns-else-text-end-ne10-clause-line
returns-else-text-end-ne10-clause-line c = line_fed c.args.text.now c.args.at c.loop-end.end 0 c.loop-end.invariant.low c.loop-end-test.true c.loop-end.invariant.free c.if-text-end-ne10.false

pub returns-after-loop-end-clause-line : goal.returns-after-loop-end-clause-line
returns-after-loop-end-clause-line c =
    let h = c.loop-end.invariant.high in
    let t = c.loop-end-test.false in
    line_ended c.args.text.now c.args.at c.loop-end.end c.requires (omega (arith, h, t)) c.loop-end.invariant.free
