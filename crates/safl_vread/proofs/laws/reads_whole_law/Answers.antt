use Rattle.safl_vread.proofs.WholeFiles.{reads_whole}
use Rattle.safl_vread.proofs.laws.reads_whole_law.Goals as goal

pub returns : goal.returns
returns c = reads_whole
