use Rattle.safl_grammar.proofs.Sets.{union_first, union_second}
use Rattle.safl_grammar.proofs.laws.union_law.Goals as goal

pub returns : goal.returns
returns c = λ A B k. (union_first A B k, union_second A B k)
