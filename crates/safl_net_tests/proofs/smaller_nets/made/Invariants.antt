use Rattle.safl_net.specs.Names.{IsTidy}
use Rattle.safl_net_tests.proofs.smaller_nets.made.Given as goal

abbrev pub invariant-lines : goal.invariant-lines
invariant-lines l = IsTidy l.net
