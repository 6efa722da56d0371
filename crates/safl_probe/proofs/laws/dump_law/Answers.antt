use Rattle.safl_probe.proofs.Shows.{dumps_show_frames}
use Rattle.safl_probe.proofs.laws.dump_law.Goals as goal

pub returns : goal.returns
returns c = dumps_show_frames
