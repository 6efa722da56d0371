use Rattle.safl_verilog.proofs.ReadInOrder.{reads_in_order}
use Rattle.safl_verilog.proofs.laws.reads_in_order_law.Goals as goal

pub returns : goal.returns
returns c = reads_in_order
