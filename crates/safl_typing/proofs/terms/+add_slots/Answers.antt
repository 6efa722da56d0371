use Rattle.std.proofs.Common.{rules, ◌<◌, List, length, ap, arith}
use Rattle.std.proofs.lemmas.Result.{on_ok_weaker}
use Rattle.safl_typing.specs.declared.expression.Bound.{Bound}
use Rattle.safl_typing.proofs.SlotsBelowLets.{slots_more}
use Rattle.safl_typing.proofs.terms.+add_slots.Goals as goal

pub add_slots-requires : goal.add_slots-requires
add_slots-requires t c =
    let smaller : length c.in-Some.rest.now < length c.args.bound.now = omega (arith, ap (λ (l : List Bound). length l) c.in-Some.ensures.cases.0) in
    search rules

pub returns : goal.returns
returns t c = on_ok_weaker c.add_slots.result (λ h. slots_more c.args.all.now.items c.push.new.self.items c.add_slots.new.all.items c.args.bound.now
    c.in-Some.first.now c.in-Some.rest.now c.args.widths.now c.in-Some-split_first.width.now c.in-Some-split_first.others.now c.in_ok-name.name
    c.bytes.result.now c.in-Some.ensures.cases.0 c.in-Some-split_first.ensures.cases.0 (c.in_ok-name.ensures.bytes) c.bytes.ensures.bytes
    c.in_ok-push.ensures.items h) c.add_slots.ensures
