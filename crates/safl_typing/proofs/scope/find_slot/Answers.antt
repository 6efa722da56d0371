use Rattle.std.proofs.Common.{◌∙◌, ap, sym, true, false}
use Rattle.safl_typing.specs.declared.heads.Slot as code
use Rattle.safl_typing.proofs.SlotsTyped.{slot_then, slot_else, name_is}
use Rattle.safl_typing.proofs.scope.find_slot.Goals as goal
use Rattle.safl_typing.proofs.scope.find_slot.Goals.{then-eq, else-eq}

pub loop-slot-preserved : goal.loop-slot-preserved
loop-slot-preserved c = elim c.if-eq.branch [
  | then-eq w ↦ slot_then c.args.name.now c.args.slots.now c.loop-slot.slot c.index-slots-slot.result c.if-eq.found c.loop-slot-test.true
      c.index-slots-slot.is (name_is _ _ _ _ c.eq.result true c.eq.ensures w.if-eq.true
      (c.bytes.ensures.bytes ∙ sym (ap (λ (z : code.Slot). z.name) c.index-slots-slot.is)) c.bytes-in-loop-slot.ensures.bytes) w.found-is
  | else-eq w ↦ slot_else c.args.name.now c.args.slots.now c.loop-slot.slot c.index-slots-slot.result c.loop-slot.found c.if-eq.found
      c.loop-slot-test.true c.index-slots-slot.is (name_is _ _ _ _ c.eq.result false c.eq.ensures w.if-eq.false
      (c.bytes.ensures.bytes ∙ sym (ap (λ (z : code.Slot). z.name) c.index-slots-slot.is)) c.bytes-in-loop-slot.ensures.bytes) w.found-is c.loop-slot.invariant
]
