use Rattle.std.proofs.Common.{◌≡◌, ℕ, ◌<◌, length, slice_index}
use Rattle.safl_sim.proofs.marks.Marks.clear.Given as goal

abbrev pub invariant-words : goal.invariant-words
invariant-words l = record {
  long : length l.self ≡ length l.initial.self;
  none : (k : ℕ) → k < l.w → slice_index l.self k ≡ 0;
}
