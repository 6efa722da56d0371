use Rattle.std.proofs.Common.{◌∙◌, sym, subst}
use Rattle.safl_net.specs.Names.{IsTidy}
use Rattle.safl_net.proofs.Tidy.{tidy_output}
use Rattle.safl_net_tests.proofs.smaller_nets.add_output.Goals as goal

pub returns-in-Ok : goal.returns-in-Ok
returns-in-Ok c = subst IsTidy (sym c.in-Ok.ensures.added) (tidy_output c.args.net.now c.args.name.now c.args.s.0 c.requires (sym c.is_temp.ensures ∙ c.if-is_temp.false))
