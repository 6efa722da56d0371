use Rattle.safl_probe.proofs.Common.{drop, watched_all, ◌++◌, ◌≡◌}
use Rattle.safl_probe.specs.Watching.{group_from}
use Rattle.safl_probe.proofs.look.watch_group.Given as goal

abbrev pub invariant-signals : goal.invariant-signals
invariant-signals l = watched_all l.entries.items ++ group_from l.group (drop l.i l.net.signals) l.i ≡ watched_all l.fn.entries.items ++ group_from l.group l.net.signals 0
