use Rattle.safl_check.proofs.Common.{Slot, shown_parameter, slot_of}
use Rattle.std.proofs.Common.{◌∙◌, List, ap}
use Rattle.std.specs.Prelude.{ℕ}
use Rattle.safl_typing.specs.PlainHeads.{shown_slot}
use Rattle.safl_check.proofs.HeadsAndBodies.{shown_next, shown_all}
use Rattle.safl_check.proofs.heads.make_slots.Goals as goal

pub loop-param-preserved : goal.loop-param-preserved
loop-param-preserved c =
    let slot : List ℕ → Slot = λ (x : List ℕ). record { name = x; width = c.param-item.result.width } in
    shown_next shown_parameter slot_of shown_slot c.args.params.now c.loop-param.param-index c.param-item.result c.loop-param.all.items
    c.push.new.self.items _ c.loop-param-test.true c.param-item.is c.in_ok-push.ensures.items c.loop-param.invariant
    (ap slot (c.in_ok-name.ensures.bytes ∙ c.bytes.ensures.bytes))

pub returns : goal.returns
returns c = c.loop-param.invariant ∙ shown_all shown_parameter slot_of c.args.params.now c.loop-param.param-index c.loop-param-test.false
