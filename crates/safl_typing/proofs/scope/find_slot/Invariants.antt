use Rattle.std.proofs.Common.{◌≡◌, ◌<◌, length, take}
use Rattle.std.specs.Prelude.{IfSome}
use Rattle.safl_typing.specs.Typing.{innermost}
use Rattle.safl_typing.specs.PlainHeads.{shown_slots}
use Rattle.safl_typing.specs.PlainTyped.{at_slot}
use Rattle.safl_typing.proofs.scope.find_slot.Given as goal

abbrev pub invariant-loop-slot : goal.invariant-loop-slot
invariant-loop-slot l = IfSome l.found (λ i. i < length l.slots) × (at_slot l.slots l.found ≡ innermost l.name 0 (shown_slots (take l.slot l.slots)))
