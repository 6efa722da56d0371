use Rattle.safl_probe.proofs.Common.{drop, numbers, watched_from, ◌++◌, ◌≡◌}
use Rattle.safl_probe.specs.Texts.{start_lines}
use Rattle.safl_probe.proofs.starts_and_toggles.push_starts.Given as goal

abbrev pub invariant-spots : goal.invariant-spots
invariant-spots l =
    l.out.items ++ start_lines l.t (watched_from l.i l.entries (drop l.i l.spots)) (numbers (drop l.i l.spots))
    ≡ l.fn.out.items ++ start_lines l.t (watched_from 0 l.entries l.spots) (numbers l.spots)
