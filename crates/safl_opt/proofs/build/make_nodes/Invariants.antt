use Rattle.safl_opt.specs.Stages.{Placed}
use Rattle.safl_opt.proofs.build.make_nodes.Given as goal

abbrev pub invariant-nodes : goal.invariant-nodes
invariant-nodes l = Placed l.old l.values l.read l.i l.made.items l.net
