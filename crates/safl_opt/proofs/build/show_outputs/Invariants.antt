use Rattle.safl_opt.specs.Stages.{Shown}
use Rattle.safl_opt.proofs.build.show_outputs.Given as goal

abbrev pub invariant-outputs : goal.invariant-outputs
invariant-outputs l = Shown l.old l.values l.made l.fn.net l.i l.net
