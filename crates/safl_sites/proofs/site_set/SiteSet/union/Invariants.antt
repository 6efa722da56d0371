use Rattle.std.proofs.Common.{◌≡◌, ℕ, ◌<◌, ◌≤◌, get_or, bit_or}
use Rattle.safl_sites.proofs.site_set.SiteSet.union.Given as goal

abbrev pub invariant-loop-i : goal.invariant-loop-i
invariant-loop-i l = record {
  below : (m : ℕ) → m < l.i → get_or l.self.words m 0 ≡ bit_or (get_or l.fn.self.words m 0) (get_or l.other.words m 0);
  above : (m : ℕ) → l.i ≤ m → get_or l.self.words m 0 ≡ get_or l.fn.self.words m 0;
}
