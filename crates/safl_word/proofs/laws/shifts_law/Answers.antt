use Rattle.safl_word.proofs.WordLaws.{shifts_out}
use Rattle.safl_word.proofs.laws.shifts_law.Goals as goal

pub returns : goal.returns
returns c = shifts_out
