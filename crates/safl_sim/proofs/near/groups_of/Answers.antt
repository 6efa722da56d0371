use Rattle.std.proofs.Common.{◌≡◌, ◌+◌, List, Some, slice_get, get_or, sym, subst, arith, false}
use Rattle.std.proofs.lemmas.Option.{slice_get-get_or}
use Rattle.safl_sim.specs.declared.step.Group.{Group}
use Rattle.safl_sim.specs.declared.step.Register.{Register}
use Rattle.safl_sim.proofs.Nearing.{GroupedTo, groups_more}
use Rattle.safl_sim.proofs.near.groups_of.Goals as goal

abbrev none : Register
none = record { signal = record { 0 = 0 }; next = record { 0 = 0 }; narrow = false }

pub bounds-starts-place : goal.bounds-starts-place
bounds-starts-place c =
    let r = c.requires.lists in
    let w = r.3 c.registers.i (get_or c.args.registers.now c.registers.i none) (slice_get-get_or c.args.registers.now c.registers.i none c.registers-test.true) in
    let l = r.2.long in
    omega (arith, w, l)

pub bounds-starts-place-in-registers : goal.bounds-starts-place-in-registers
bounds-starts-place-in-registers c =
    let r = c.requires.lists in
    let w = r.3 c.registers.i (get_or c.args.registers.now c.registers.i none) (slice_get-get_or c.args.registers.now c.registers.i none c.registers-test.true) in
    let l = r.2.long in
    omega (arith, w, l)

pub group_of-requires-clause-ordered : goal.group_of-requires-clause-ordered
group_of-requires-clause-ordered c =
    let r = c.requires.lists in
    r.2.ordered (get_or c.args.registers.now c.registers.i none).signal.0
    (r.3 c.registers.i (get_or c.args.registers.now c.registers.i none) (slice_get-get_or c.args.registers.now c.registers.i none c.registers-test.true))

pub group_of-requires-clause-within : goal.group_of-requires-clause-within
group_of-requires-clause-within c =
    let r = c.requires.lists in
    r.2.within (get_or c.args.registers.now c.registers.i none).signal.0
    (r.3 c.registers.i (get_or c.args.registers.now c.registers.i none) (slice_get-get_or c.args.registers.now c.registers.i none c.registers-test.true))

pub registers-preserved : goal.registers-preserved
registers-preserved c =
    let r = get_or c.args.registers.now c.registers.i none in
    let at : slice_get c.args.registers.now c.registers.i ≡ Some r = slice_get-get_or c.args.registers.now c.registers.i none c.registers-test.true in
    subst (λ (l : List Group). GroupedTo c.args.starts.now c.args.readers.now c.args.registers.now l (c.registers.i + 1)) (sym c.in_ok-push.ensures.items)
    (groups_more c.args.starts.now c.args.readers.now c.args.registers.now c.registers.groups.items c.registers.i r c.group_of.result c.registers.invariant at c.group_of.ensures)
