use Rattle.safl_sites.specs.Collecting.{IsCollected}
use Rattle.safl_sites.proofs.planning.collect.Given as goal

abbrev pub invariant-loop-done : goal.invariant-loop-done
invariant-loop-done l = IsCollected l.c.program l.done l.arbiters.items l.kept
