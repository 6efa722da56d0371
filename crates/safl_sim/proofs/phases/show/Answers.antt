use Rattle.std.proofs.Common.{ℕ, ◌+◌, ◌<◌, List, length, slice_index, sym, subst, arith}
use Rattle.safl_sim.specs.Readers.{HasMarked, HasGiven}
use Rattle.safl_sim.proofs.Nearing.{given_new}
use Rattle.safl_sim.proofs.phases.show.Goals as goal

pub mark_group-requires-clause-group : goal.mark_group-requires-clause-group
mark_group-requires-clause-group c =
    let p = c.args.register.signal.0 in
    let inside : p + 1 < length c.args.plan.now.starts.items = (let a = c.requires.lists.long in let b = c.requires.within in omega (arith, a, b)) in
    (p, inside, c.requires.group)

pub returns-then-renew_register : goal.returns-then-renew_register
returns-then-renew_register c =
    let plan = c.args.plan.now in
    let steps = plan.steps.items in
    let starts = plan.starts.items in
    let readers = plan.readers.items in
    let p = c.args.register.signal.0 in
    let x = c.args.number in
    let old = c.args.values.now in
    let inside : p + 1 < length starts = (let a = c.requires.lists.long in let b = c.requires.within in omega (arith, a, b)) in
    subst (λ (l : List ℕ). HasGiven steps starts readers p x old l c.args.marks.now c.mark_group.new.marks) (sym c.renew_register.ensures.is)
    (given_new steps starts readers p x old c.args.marks.now c.mark_group.new.marks
    (subst (λ (l : List ℕ). HasMarked steps readers (slice_index starts p) (slice_index starts (p + 1)) p l c.args.marks.now c.mark_group.new.marks) c.renew_register.ensures.is
    (c.mark_group.ensures p inside c.requires.group)))
