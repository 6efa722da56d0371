use Rattle.safl_opt.specs.Stages.{Declared}
use Rattle.safl_opt.proofs.build.declare_kept.Given as goal

abbrev pub invariant-kept : goal.invariant-kept
invariant-kept l = Declared l.old l.values l.i l.net
