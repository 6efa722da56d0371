use Rattle.safl_aig.proofs.Running.{law}
use Rattle.safl_aig.proofs.laws.mirror_law.Goals as goal

pub returns : goal.returns
returns c = law
