use Rattle.safl_typing.proofs.Consequences.{one_form}
use Rattle.safl_typing.proofs.laws.one_form_law.Goals as goal

pub returns : goal.returns
returns c = one_form
