use Rattle.safl_probe.proofs.Common.{drop, map, spot_of, ◌++◌, ◌≡◌}
use Rattle.safl_probe.proofs.look.spots_of.Given as goal

abbrev pub invariant-entries : goal.invariant-entries
invariant-entries l = l.spots.items ++ map spot_of (drop l.i l.entries) ≡ map spot_of l.entries
