use Rattle.safl_probe.proofs.Outcomes.{runs_end}
use Rattle.safl_probe.proofs.laws.end_law.Goals as goal

pub returns : goal.returns
returns c = runs_end c.run_law.ensures.one
