use Rattle.safl_net.proofs.MirrorsRunAlike.{run_alike}
use Rattle.safl_net.proofs.laws.mirrors_run_alike.Goals as goal

pub returns : goal.returns
returns c = run_alike
