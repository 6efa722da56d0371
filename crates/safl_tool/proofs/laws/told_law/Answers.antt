use Rattle.safl_tool.proofs.Followed.{ends_tell}
use Rattle.safl_tool.proofs.laws.told_law.Goals as goal

pub returns : goal.returns
returns c = ends_tell
