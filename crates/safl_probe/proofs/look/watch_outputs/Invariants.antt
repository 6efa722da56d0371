use Rattle.safl_probe.proofs.Common.{drop, map, output_watched, watched_all, ◌++◌, ◌≡◌}
use Rattle.safl_probe.proofs.look.watch_outputs.Given as goal

abbrev pub invariant-outputs : goal.invariant-outputs
invariant-outputs l = watched_all l.entries.items ++ map (output_watched l.net) (drop l.i l.net.outputs) ≡ watched_all l.fn.entries.items ++ map (output_watched l.net) l.net.outputs
