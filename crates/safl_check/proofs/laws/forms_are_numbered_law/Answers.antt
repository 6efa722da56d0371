use Rattle.safl_check.proofs.NumberedForms.{numbered}
use Rattle.safl_check.proofs.laws.forms_are_numbered_law.Goals as goal

pub returns : goal.returns
returns c = numbered
