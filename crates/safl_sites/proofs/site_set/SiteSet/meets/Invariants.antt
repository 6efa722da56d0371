use Rattle.safl_sites.proofs.Common.{Has, ℕ, ◌/◌, ◌<◌, ◌≡◌}
use Rattle.safl_sites.proofs.site_set.SiteSet.meets.Given as goal

abbrev pub invariant-loop-i : goal.invariant-loop-i
invariant-loop-i l = (j : ℕ) → j / 64 < l.i → Has l.self j → Has l.other j → l.except ≡ j
