use Rattle.safl_unit.proofs.Common.{IsTidy, subst, sym}
use Rattle.safl_net.proofs.Tidy.{tidy_output}
use Rattle.safl_unit.proofs.finish.add_output.Goals as goal

pub returns-in-Ok-clause-tidy : goal.returns-in-Ok-clause-tidy
returns-in-Ok-clause-tidy c = subst IsTidy (sym c.in-Ok.ensures.added) (tidy_output c.args.net.now c.args.name.now c.args.s.0 c.requires.tidy c.requires.lasting)
