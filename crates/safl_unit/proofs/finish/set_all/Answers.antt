use Rattle.safl_unit.proofs.Common.{arith, sources_length, ◌∙◌}
use Rattle.safl_unit.proofs.assembly.Finishing.{first_wire_is, all_long, nexts_long, copies_long, registers_take, wires_take, all_set, all_tidy}
use Rattle.safl_unit.proofs.finish.set_all.Goals as goal

pub register_sources-requires-clause-args : goal.register_sources-requires-clause-args
register_sources-requires-clause-args c = λ i x e. sources_length c.args.net.now x.args.items (c.args.p.now.program.params i) (c.requires.next.members i x e).args

pub set_nexts-requires-clause-open : goal.set_nexts-requires-clause-open
set_nexts-requires-clause-open c =
    registers_take c.args.p.now.checked c.program-c.ensures.checked c.args.p.now.choice c.args.net.now c.args.pins.now c.args.next.now
    c.args.controls.now c.requires.grown c.requires.pins c.requires.next c.requires.controls
    c.as_slice.result.now c.in_ok-copies.copies.items (c.as_slice.ensures.value ∙ c.in_ok-nexts.ensures) c.in_ok-copies.ensures

pub set_nexts-requires-clause-room : goal.set_nexts-requires-clause-room
set_nexts-requires-clause-room c =
    let h = c.program-c.ensures.checked in
    let x = nexts_long c.args.p.now.checked h c.args.p.now.choice c.args.net.now c.args.pins.now c.args.next.now c.args.controls.now
    c.requires.grown c.requires.pins c.requires.next c.requires.controls
    c.as_slice.result.now c.in_ok-copies.copies.items (c.as_slice.ensures.value ∙ c.in_ok-nexts.ensures) c.in_ok-copies.ensures in
    let y = first_wire_is c.args.p.now.checked h c.args.p.now.choice c.args.net.now c.args.pins.now c.args.next.now c.args.controls.now
    c.requires.grown c.requires.pins c.requires.next c.requires.controls in
    let z = all_long c.args.p.now.checked h c.args.p.now.choice c.args.net.now c.args.pins.now c.args.next.now c.args.controls.now
    c.requires.grown c.requires.pins c.requires.next c.requires.controls in
    let few = c.requires.room.room in
    omega (arith, x, y, z, few)

pub set_copies-requires-clause-open : goal.set_copies-requires-clause-open
set_copies-requires-clause-open c =
    wires_take c.args.p.now.checked c.program-c.ensures.checked c.args.p.now.choice c.args.net.now c.args.pins.now c.args.next.now
    c.args.controls.now c.requires.grown c.requires.pins c.requires.next c.requires.controls
    c.as_slice.result.now c.as_slice-2.result.now (c.as_slice.ensures.value ∙ c.in_ok-nexts.ensures) (c.as_slice-2.ensures.value ∙ c.in_ok-copies.ensures) c.set_nexts.new.net c.set_nexts.ensures

pub set_copies-requires-clause-room : goal.set_copies-requires-clause-room
set_copies-requires-clause-room c =
    let h = c.program-c.ensures.checked in
    let x = copies_long c.args.p.now.checked h c.args.p.now.choice c.args.net.now c.args.pins.now c.args.next.now c.args.controls.now
    c.requires.grown c.requires.pins c.requires.next c.requires.controls
    c.as_slice.result.now c.as_slice-2.result.now (c.as_slice.ensures.value ∙ c.in_ok-nexts.ensures) (c.as_slice-2.ensures.value ∙ c.in_ok-copies.ensures) in
    let z = all_long c.args.p.now.checked h c.args.p.now.choice c.args.net.now c.args.pins.now c.args.next.now c.args.controls.now
    c.requires.grown c.requires.pins c.requires.next c.requires.controls in
    let few = c.requires.room.room in
    omega (arith, x, z, few)

pub returns-clause-tidy : goal.returns-clause-tidy
returns-clause-tidy c =
    all_tidy c.args.p.now.checked c.program-c.ensures.checked c.args.p.now.choice c.args.net.now c.args.pins.now c.args.next.now
    c.args.controls.now c.requires.grown c.requires.pins c.requires.next c.requires.controls
    c.as_slice.result.now c.as_slice-2.result.now (c.as_slice.ensures.value ∙ c.in_ok-nexts.ensures)
    (c.as_slice-2.ensures.value ∙ c.in_ok-copies.ensures) c.set_nexts.new.net c.set_nexts.ensures c.set_copies.new.net c.set_copies.ensures c.requires.room.tidy

pub returns-clause-set : goal.returns-clause-set
returns-clause-set c =
    all_set c.args.p.now.checked c.program-c.ensures.checked c.args.p.now.choice c.args.net.now c.args.pins.now c.args.next.now
    c.args.controls.now c.requires.grown c.requires.pins c.requires.next c.requires.controls
    c.as_slice.result.now c.as_slice-2.result.now (c.as_slice.ensures.value ∙ c.in_ok-nexts.ensures)
    (c.as_slice-2.ensures.value ∙ c.in_ok-copies.ensures) c.set_nexts.new.net c.set_nexts.ensures c.set_copies.new.net c.set_copies.ensures
