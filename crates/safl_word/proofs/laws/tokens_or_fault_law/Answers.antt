use Rattle.safl_word.proofs.TokensOnce.{tokens_or_fault}
use Rattle.safl_word.proofs.laws.tokens_or_fault_law.Goals as goal

pub returns : goal.returns
returns c = tokens_or_fault
