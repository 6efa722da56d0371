use Rattle.std.proofs.Common.{arith}
use Rattle.safl_typing.proofs.ListsByOne.{bound_sites_next, bound_sites_all}
use Rattle.safl_typing.proofs.MarksOfParts.{bound_marked_at}
use Rattle.safl_typing.proofs.marks.add_bound_sites.Goals as goal

pub loop-b-preserved : goal.loop-b-preserved
loop-b-preserved c = λ k h.
    bound_sites_next k c.args.bound.now c.loop-b.b-index c.b-item.result c.args.counted c.loop-b.total c.add_sites-total.result c.loop-b-test.true c.b-item.is (c.loop-b.invariant k h)
    (c.add_sites-total.ensures k (bound_marked_at k c.args.bound.now c.loop-b.b-index c.b-item.result h c.loop-b-test.true c.b-item.is))

pub returns : goal.returns
returns c = λ k h.
    let a = c.loop-b-test.false in
    bound_sites_all k c.args.bound.now c.loop-b.b-index c.args.counted c.loop-b.total (omega (arith, a)) (c.loop-b.invariant k h)
