use Rattle.std.proofs.Common.{sym}
use Rattle.safl_vparse.proofs.Fronts.{one_missing}
use Rattle.safl_vparse.proofs.front.single.Goals as goal

pub returns-in-None : goal.returns-in-None
returns-in-None c = sym (one_missing c.args.c c.in-None.ensures.none)
