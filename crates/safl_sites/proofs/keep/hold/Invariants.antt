use Rattle.safl_term.specs.Tree.{shown_term}
use Rattle.safl_sites.proofs.LetsReach.{Looked}
use Rattle.safl_sites.proofs.keep.hold.Given as goal

abbrev pub invariant-loop-done : goal.invariant-loop-done
invariant-loop-done l = Looked l.c.program l.slots l.low (shown_term l.body) l.fn.held l.held l.done
