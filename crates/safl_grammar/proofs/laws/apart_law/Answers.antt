use Rattle.safl_grammar.proofs.Sets.{apart_within}
use Rattle.safl_grammar.proofs.laws.apart_law.Goals as goal

pub returns : goal.returns
returns c = apart_within
