use Rattle.std.proofs.Common.{◌≤◌, length, arith}
use Rattle.safl_labels.proofs.Kept.{labelling_of}
use Rattle.safl_labels.proofs.keeping.are_kept.Goals as goal

pub returns : goal.returns
returns c = λ z.
    let few : length c.args.labels.now.results.items ≤ c.args.c.now.program.functions = omega (arith, c.len.ensures, c.functions.ensures.count, c.if-len-functions.false) in
    labelling_of c.args.c.now c.args.labels.now few (λ f h. c.loop-f.invariant f (omega (arith, h, c.functions-f-end.ensures.count, c.loop-f-test.false)))
