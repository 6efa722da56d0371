use Rattle.safl_verilog.proofs.Readings.{one_netlist}
use Rattle.safl_verilog.proofs.laws.one_netlist_law.Goals as goal

pub returns : goal.returns
returns c = one_netlist
