use Rattle.safl_grammar.proofs.Sets.{subset_within}
use Rattle.safl_grammar.proofs.laws.subset_law.Goals as goal

pub returns : goal.returns
returns c = subset_within
