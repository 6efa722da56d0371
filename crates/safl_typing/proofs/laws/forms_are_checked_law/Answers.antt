use Rattle.safl_typing.proofs.Programs.{form_checked}
use Rattle.safl_typing.proofs.laws.forms_are_checked_law.Goals as goal

pub returns : goal.returns
returns c = form_checked
