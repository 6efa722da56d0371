use Rattle.safl_report.proofs.OnePlan.{summary_once}
use Rattle.safl_report.proofs.laws.one_summary_law.Goals as goal

pub returns : goal.returns
returns c = summary_once
