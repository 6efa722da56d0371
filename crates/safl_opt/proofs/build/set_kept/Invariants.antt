use Rattle.safl_opt.specs.Stages.{SetBelow}
use Rattle.safl_opt.proofs.build.set_kept.Given as goal

abbrev pub invariant-kept : goal.invariant-kept
invariant-kept l = SetBelow l.old l.values l.made l.fn.net l.i l.net
