use Rattle.std.proofs.Common.{sym, ap, subst}
use Rattle.safl_net.specs.Names.{IsTidy, one_wire}
use Rattle.safl_net.proofs.SignalKinds.{tidy_kind}
use Rattle.safl_net_tests.proofs.smaller_nets.set_open_next.Goals as goal

pub returns-in-Ok : goal.returns-in-Ok
returns-in-Ok c = subst IsTidy (sym c.in-Ok.ensures.set) (tidy_kind c.args.net.now _ _ (sym (ap one_wire c.requires.open)) c.requires.tidy)
