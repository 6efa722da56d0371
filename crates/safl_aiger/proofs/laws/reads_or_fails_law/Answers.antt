use Rattle.safl_aiger.proofs.Deciding.{reads_or_fails}
use Rattle.safl_aiger.proofs.laws.reads_or_fails_law.Goals as goal

pub returns : goal.returns
returns c = reads_or_fails
