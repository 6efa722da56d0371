use Rattle.safl_sites.proofs.Common.{IsSpread, ◌-◌}
use Rattle.safl_sites.proofs.spread.spread.Given as goal

abbrev pub invariant-loop-done : goal.invariant-loop-done
invariant-loop-done l = IsSpread l.c.program (l.sites - l.done) l.sets l.handed.items
