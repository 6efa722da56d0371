use Rattle.safl_calls.proofs.Labels.{is_blind}
use Rattle.safl_calls.proofs.laws.blind_law.Goals as goal

pub returns : goal.returns
returns c = λ C. is_blind C
