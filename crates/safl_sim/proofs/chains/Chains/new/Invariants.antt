use Rattle.std.proofs.Common.{◌≡◌, ℕ, length, slice_index}
use Rattle.safl_sim.proofs.chains.Chains.new.Given as goal

abbrev pub invariant-places : goal.invariant-places
invariant-places l = record {
  long : length l.heads.items ≡ l._p;
  none : (p : ℕ) → slice_index l.heads.items p ≡ 0;
}
