use Rattle.safl_typing.proofs.Walks.{walk_form, form_walk}
use Rattle.safl_typing.proofs.laws.walk_law.Goals as goal

pub returns : goal.returns
returns c = λ ds form formed. (walk_form ds form formed, form_walk ds form)
