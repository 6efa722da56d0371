use Rattle.safl_session.proofs.LinesOfScripts.{one_script, one_fault, not_both}
use Rattle.safl_session.proofs.laws.script_law.Goals as goal

pub returns-clause-script : goal.returns-clause-script
returns-clause-script c = one_script

pub returns-clause-fault : goal.returns-clause-fault
returns-clause-fault c = one_fault

pub returns-clause-not_both : goal.returns-clause-not_both
returns-clause-not_both c = not_both
