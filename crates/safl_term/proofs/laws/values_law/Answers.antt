use Rattle.safl_term.proofs.Values.{main_word}
use Rattle.safl_term.proofs.laws.values_law.Goals as goal

pub returns : goal.returns
returns c = main_word
