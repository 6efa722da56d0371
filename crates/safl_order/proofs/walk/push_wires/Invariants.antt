use Rattle.std.proofs.Common.{◌≡◌, ◌++◌, map, take}
use Rattle.safl_order.specs.declared.walk.Frame.{Frame}
use Rattle.safl_order.proofs.walk.push_wires.Given as goal

abbrev pub invariant-frames : goal.invariant-frames
invariant-frames l = l.wires.items ≡ l.initial.wires.items ++ map (λ (f : Frame). f.wire) (take l.f-index l.frames)
