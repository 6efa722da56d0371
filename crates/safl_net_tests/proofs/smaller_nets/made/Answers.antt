use Rattle.std.proofs.Common.{sym, subst}
use Rattle.safl_net.specs.Names.{IsTidy}
use Rattle.safl_net_tests.proofs.Keeping.{tidy_none}
use Rattle.safl_net_tests.proofs.smaller_nets.made.Goals as goal

pub lines-init : goal.lines-init
lines-init c = subst IsTidy (sym c.new-net.ensures) tidy_none
