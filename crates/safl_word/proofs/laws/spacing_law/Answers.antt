use Rattle.safl_word.proofs.BlanksEndTokens.{spaced_reads}
use Rattle.safl_word.proofs.laws.spacing_law.Goals as goal

pub returns : goal.returns
returns c = spaced_reads
