use Rattle.safl_verilog.proofs.Readings.{not_both}
use Rattle.safl_verilog.proofs.laws.not_both_law.Goals as goal

pub returns : goal.returns
returns c = not_both
