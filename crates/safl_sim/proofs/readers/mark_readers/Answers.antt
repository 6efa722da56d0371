use Rattle.std.proofs.Common.{subst, arith}
use Rattle.safl_word.proofs.Lists.{get_read}
use Rattle.safl_sim.specs.Readers.{HasMarked}
use Rattle.safl_sim.proofs.MarksByOne.{marked_none, marked_step}
use Rattle.safl_sim.proofs.readers.mark_readers.Goals as goal

pub returns-then-from-to : goal.returns-then-from-to
returns-then-from-to c = λ p part.
    subst (λ k. HasMarked c.args.plan.now.steps.items c.args.plan.now.readers.items c.args.from k p c.args.values.now c.args.marks.now
    c.args.marks.now) (let a = c.if-from-to.true in let b = c.requires.ordered in omega (arith, a, b))
    (marked_none c.args.plan.now.steps.items c.args.plan.now.readers.items c.args.from p c.args.values.now c.args.marks.now)

pub readers-init : goal.readers-init
readers-init c = λ p. marked_none c.args.plan.now.steps.items c.args.plan.now.readers.items c.args.from p c.args.values.now c.args.marks.now

pub mark-requires : goal.mark-requires
mark-requires c =
    let j = c.readers.j in
    let here = get_read c.args.plan.now.readers.items j c.index.result.now (let a = c.readers-test.true in let b = c.requires.within in omega (arith, a, b)) c.index.ensures in
    let a = c.requires.known j c.index.result.now here in
    let b = (c.readers.invariant 0).long in
    omega (arith, a, b)

pub readers-preserved : goal.readers-preserved
readers-preserved c = λ p.
    let steps = c.args.plan.now.steps.items in
    let readers = c.args.plan.now.readers.items in
    let j = c.readers.j in
    let reader = c.index.result.now in
    let here = get_read readers j reader (let a = c.readers-test.true in let b = c.requires.within in omega (arith, a, b)) c.index.ensures in
    marked_step steps readers c.args.from j reader p c.args.values.now c.args.marks.now c.readers.marks c.mark.new.self
    (let a = c.readers.auto.j in omega (arith, a)) (c.readers.invariant p) here c.mark.ensures

pub returns : goal.returns
returns c = λ p part.
    subst (λ k. HasMarked c.args.plan.now.steps.items c.args.plan.now.readers.items c.args.from k p c.args.values.now c.args.marks.now c.readers.marks)
    (let a = c.readers-test.false in let b = c.readers.auto.j-end in let d = c.requires.ordered in omega (arith, a, b, d))
    (c.readers.invariant p)
