use Rattle.std.proofs.Common.{◌≡◌, ℕ, ◌<◌, ◌≤◌, length, Some, slice_get}
use Rattle.safl_order.specs.declared.walk.Frame.{Frame}
use Rattle.safl_order.proofs.walk.least.Given as goal

abbrev pub invariant-frames : goal.invariant-frames
invariant-frames l = record {
  within : l.best < length l.frames;
  least : (j : ℕ) (f g : Frame) → j < l.i → slice_get l.frames l.best ≡ Some f → slice_get l.frames j ≡ Some g → f.wire.0 ≤ g.wire.0;
}
