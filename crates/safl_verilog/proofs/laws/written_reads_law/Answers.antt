use Rattle.safl_verilog.proofs.WrittenReads.{written_reads}
use Rattle.safl_verilog.proofs.laws.written_reads_law.Goals as goal

pub returns : goal.returns
returns c = written_reads
