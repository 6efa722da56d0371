use Rattle.safl_verilog.proofs.Readings.{netlist_or_fault}
use Rattle.safl_verilog.proofs.laws.netlist_or_fault_law.Goals as goal

pub returns : goal.returns
returns c = netlist_or_fault
