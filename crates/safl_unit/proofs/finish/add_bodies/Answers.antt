use Rattle.safl_unit.proofs.Common.{arith, length, refl, slice_get_read, sym}
use Rattle.safl_unit.specs.Ties.{body_ties}
use Rattle.safl_unit.proofs.equations.Tables.{pin_is}
use Rattle.safl_unit.proofs.assembly.Listing.{none_listed, more_listed, body_listed}
use Rattle.safl_unit.proofs.finish.add_bodies.Goals as goal

pub loop-f-init : goal.loop-f-init
loop-f-init c = none_listed c.args.all.now.items (body_ties c.args.c.now.names c.args.controls.now)

pub loop-f-preserved : goal.loop-f-preserved
loop-f-preserved c =
    let T = c.args.controls.now in
    let l = c.loop-f-test.true in
    let e = c.functions-f-end.ensures.count in
    let x = c.requires.ends in
    let y = c.requires.loops in
    more_listed c.args.all.now.items c.loop-f.all.items c.push-in-loop-f.new.self.items (body_ties c.args.c.now.names T) c.loop-f.f c.loop-f.invariant
    (body_listed c.args.c.now.names T c.loop-f.f c.index.result.now c.index-in-loop-f.result.now c.loop-f.all.items c.push.new.self.items c.push-in-loop-f.new.self.items
    (sym (pin_is T.ends.items c.loop-f.f c.index.result.now (slice_get_read T.ends.items (length T.ends.items) c.loop-f.f c.index.result.now refl (omega (arith, l, e, x)) c.index.ensures)))
    (sym (pin_is T.loops.items c.loop-f.f c.index-in-loop-f.result.now
    (slice_get_read T.loops.items (length T.loops.items) c.loop-f.f c.index-in-loop-f.result.now refl (omega (arith, l, e, y)) c.index-in-loop-f.ensures)))
    c.in_ok-push.ensures.items c.in_ok-push-2.ensures.items)
