use Rattle.safl_word.proofs.WordLaws.{decimal_counts}
use Rattle.safl_word.proofs.laws.decimal_law.Goals as goal

pub returns : goal.returns
returns c = decimal_counts
