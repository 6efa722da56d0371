use Rattle.safl_word.proofs.TokensOnce.{fault_in_full}
use Rattle.safl_word.proofs.laws.lexical_rule_law.Goals as goal

pub returns : goal.returns
returns c = fault_in_full
