use Rattle.safl_word.proofs.TokensOnce.{fault_once}
use Rattle.safl_word.proofs.laws.lexical_fault_law.Goals as goal

pub returns : goal.returns
returns c = fault_once
