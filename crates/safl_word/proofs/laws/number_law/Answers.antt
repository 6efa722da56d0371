use Rattle.safl_word.proofs.BlanksEndTokens.{number_token}
use Rattle.safl_word.proofs.laws.number_law.Goals as goal

pub returns : goal.returns
returns c = number_token
