use Rattle.safl_calls.proofs.Fixed.{is_fixed}
use Rattle.safl_calls.proofs.laws.fixed_law.Goals as goal

pub returns : goal.returns
returns c = λ C. is_fixed C
