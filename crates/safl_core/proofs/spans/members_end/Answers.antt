use Rattle.std.proofs.Common.{◌∙◌, arith}
use Rattle.safl_core.proofs.MembersAndSites.{ends_members}
use Rattle.safl_core.proofs.spans.members_end.Goals as goal

pub returns-then-unit-u-clause-ends : goal.returns-then-unit-u-clause-ends
returns-then-unit-u-clause-ends c = ends_members c.args.c.now c.functions-functions.ensures.checked c.args.u c.loop-f.f (omega arith)
    (omega (arith, c.loop-f-test.true, c.functions-functions.ensures.count)) c.loop-f.invariant (λ q lt. c.if-unit-u.true (c.unit.ensures.number ∙ q))

pub returns-clause-ends : goal.returns-clause-ends
returns-clause-ends c = ends_members c.args.c.now c.functions-functions.ensures.checked c.args.u c.functions-functions.result
    (omega (arith, c.requires, c.functions-functions.ensures.count)) (omega (arith, c.functions-functions.ensures.count))
    (λ g a b. c.loop-f.invariant g a (omega (arith, b, c.loop-f-test.false))) (λ q lt. absurd (omega (arith, lt, c.functions-functions.ensures.count)))
