use Rattle.safl_report.proofs.OnePlan.{report_once}
use Rattle.safl_report.proofs.laws.one_report_law.Goals as goal

pub returns : goal.returns
returns c = report_once
