use Rattle.std.proofs.Common.{◌≡◌, Some, slice_get, slice_index, arith}
use Rattle.std.proofs.lemmas.Option.{slice_get-get_or}
use Rattle.safl_sim.proofs.Guarding.{part_none, part_more}
use Rattle.safl_sim.proofs.guards.guard_part.Goals as goal

pub readers-init : goal.readers-init
readers-init c = part_none c.args.steps.now c.args.readers.now c.args.place c.args.from c.args.guards.now

pub readers-preserved : goal.readers-preserved
readers-preserved c =
    let readers = c.args.readers.now in
    let j = c.readers.j in
    let here : slice_get readers j ≡ Some (slice_index readers j) = slice_get-get_or readers j 0 (let a = c.readers-test.true in let b = c.requires.within in omega (arith, a, b)) in
    part_more c.args.steps.now readers c.args.place c.args.from j (slice_index readers j) c.guard_of.result c.args.guards.now c.readers.guards c.readers.invariant
    (let a = c.readers.auto.j in omega (arith, a))
    (let a = c.readers-test.true in let b = c.requires.within in let d = c.requires.long in let e = c.readers.invariant.long in omega (arith, a, b, d, e))
    here c.guard_of.ensures
