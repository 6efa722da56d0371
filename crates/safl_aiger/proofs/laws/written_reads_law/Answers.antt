use Rattle.safl_aiger.proofs.Rereading.{reads_written}
use Rattle.safl_aiger.proofs.laws.written_reads_law.Goals as goal

pub returns : goal.returns
returns c = reads_written
