use Rattle.safl_word.proofs.TokensOnce.{tokens_once}
use Rattle.safl_word.proofs.laws.tokens_law.Goals as goal

pub returns : goal.returns
returns c = tokens_once
