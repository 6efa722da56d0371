use Rattle.safl_unit.proofs.Common.{ap, arith, length, refl, slice_get_read, ◌++◌, ◌∙◌}
use Rattle.safl_unit.proofs.assembly.Listing.{function_listed}
use Rattle.safl_unit.proofs.finish.add_function.Goals as goal

pub returns : goal.returns
returns c =
    let us = c.args.next.now.units.items in
    let ms = c.args.next.now.members.items in
    let f = c.args.f in
    let l = c.requires.function in
    let x = c.requires.units in
    let y = c.requires.members in
    let at = slice_get_read ms (length ms) f c.index-member.result.now refl (omega (arith, l, y)) c.index-member.ensures in
    function_listed c.args.c.now us ms f c.index-unit.result.now c.index-member.result.now c.args.all.now.items c.add_unit.new.all.items c.add_at.new.all.items c.extend_from_slice.new.self.items
    (slice_get_read us (length us) f c.index-unit.result.now refl (omega (arith, l, x)) c.index-unit.ensures) at (c.requires.args f c.index-member.result.now at)
    c.in_ok-add_unit.ensures c.in_ok-add_at.ensures (c.in_ok-extend_from_slice.ensures.items ∙ ap (λ xs. c.add_at.new.all.items ++ xs) c.as_slice.ensures.value)
