use Rattle.std.proofs.Common.{subst, arith}
use Rattle.safl_sim.specs.Marks.{HasRange}
use Rattle.safl_sim.proofs.MarksByOne.{range_none, range_step}
use Rattle.safl_sim.proofs.marks.Marks.mark_range.Goals as goal

pub numbers-init : goal.numbers-init
numbers-init c = range_none c.args.from c.args.self.now

pub numbers-preserved : goal.numbers-preserved
numbers-preserved c = range_step c.args.from c.numbers.i c.args.self.now c.numbers.self c.mark.new.self (let a = c.numbers.auto.i in omega (arith, a)) c.numbers.invariant c.mark.ensures

pub returns : goal.returns
returns c =
    subst (λ k. HasRange c.args.from k c.args.self.now c.numbers.self)
    (let a = c.numbers-test.false in let b = c.numbers.auto.i-end in let d = c.requires.ordered in omega (arith, a, b, d))
    c.numbers.invariant
