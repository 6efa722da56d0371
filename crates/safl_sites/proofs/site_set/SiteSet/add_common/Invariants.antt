use Rattle.safl_sites.proofs.Common.{Adds, Has, IsCommon, get_or, ℕ, ◌/◌, ◌<◌, ◌≡◌, ◌≤◌}
use Rattle.safl_sites.proofs.site_set.SiteSet.add_common.Given as goal

abbrev pub invariant-loop-i : goal.invariant-loop-i
invariant-loop-i l = record {
  below : (k : ℕ) → k / 64 < l.i → Adds (Has l.fn.self k) (Has l.self k) (IsCommon l.a l.b l.except k);
  above : (m : ℕ) → l.i ≤ m → get_or l.self.words m 0 ≡ get_or l.fn.self.words m 0;
}
