use Rattle.std.proofs.Common.{arith}
use Rattle.safl_typing.proofs.ListsByOne.{sites_next, sites_all}
use Rattle.safl_typing.proofs.MarksOfParts.{marked_at}
use Rattle.safl_typing.proofs.marks.add_all_sites.Goals as goal

pub loop-e-preserved : goal.loop-e-preserved
loop-e-preserved c = λ k h.
    sites_next k c.args.es.now c.loop-e.e-index c.e-item.result c.args.counted c.loop-e.total c.add_sites-total.result c.loop-e-test.true c.e-item.is (c.loop-e.invariant k h)
    (c.add_sites-total.ensures k (marked_at k c.args.es.now c.loop-e.e-index c.e-item.result h c.loop-e-test.true c.e-item.is))

pub returns : goal.returns
returns c = λ k h.
    let a = c.loop-e-test.false in
    sites_all k c.args.es.now c.loop-e.e-index c.args.counted c.loop-e.total (omega (arith, a)) (c.loop-e.invariant k h)
