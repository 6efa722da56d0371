use Rattle.safl_order.proofs.Ends.{loop_cyclic}
use Rattle.safl_order.proofs.laws.loops_are_cyclic.Goals as goal

pub returns : goal.returns
returns c = loop_cyclic
