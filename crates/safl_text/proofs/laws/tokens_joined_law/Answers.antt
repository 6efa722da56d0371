use Rattle.safl_text.proofs.TokensInText.{tokens_joined}
use Rattle.safl_text.proofs.laws.tokens_joined_law.Goals as goal

pub returns : goal.returns
returns c = tokens_joined
