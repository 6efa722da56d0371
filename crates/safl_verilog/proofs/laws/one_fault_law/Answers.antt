use Rattle.safl_verilog.proofs.Readings.{one_fault}
use Rattle.safl_verilog.proofs.laws.one_fault_law.Goals as goal

pub returns : goal.returns
returns c = one_fault
