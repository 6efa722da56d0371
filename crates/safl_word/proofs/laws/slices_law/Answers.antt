use Rattle.safl_word.proofs.WordLaws.{slices_join}
use Rattle.safl_word.proofs.laws.slices_law.Goals as goal

pub returns : goal.returns
returns c = slices_join
