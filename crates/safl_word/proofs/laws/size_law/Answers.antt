use Rattle.safl_word.proofs.BlanksEndTokens.{size_token}
use Rattle.safl_word.proofs.laws.size_law.Goals as goal

pub returns : goal.returns
returns c = size_token
