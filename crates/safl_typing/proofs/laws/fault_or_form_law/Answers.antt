use Rattle.safl_typing.proofs.Consequences.{form_or_fault, form_no_fault}
use Rattle.safl_typing.proofs.laws.fault_or_form_law.Goals as goal

pub returns : goal.returns
returns c = λ ds formed. (form_or_fault ds formed, form_no_fault ds)
