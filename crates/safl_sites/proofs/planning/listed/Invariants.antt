use Rattle.std.proofs.Common.{◌≡◌, ℕ, ◌<◌, length, false, get_or}
use Rattle.safl_sites.specs.SiteSets.{has}
use Rattle.safl_sites.proofs.planning.listed.Given as goal

abbrev pub invariant-loop-k : goal.invariant-loop-k
invariant-loop-k l = record {
  count : length l.items.items ≡ l.count;
  below : (j : ℕ) → j < l.k → get_or l.items.items j false ≡ has l.set j;
}
