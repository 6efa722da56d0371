use Rattle.std.proofs.Common.{◌≡◌, ℕ, ◌*◌, ◌<◌, ◌≤◌, slice_index}
use Rattle.safl_sim.proofs.marks.Marks.next.Given as goal

abbrev pub invariant-groups : goal.invariant-groups
invariant-groups l = (v : ℕ) → l.from ≤ v → v < l.b * 64 → slice_index l.self v ≡ 0
