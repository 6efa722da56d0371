use Rattle.safl_tool.proofs.AskedFirst.{first_asked}
use Rattle.safl_tool.proofs.laws.asked_law.Goals as goal

pub returns : goal.returns
returns c = first_asked
