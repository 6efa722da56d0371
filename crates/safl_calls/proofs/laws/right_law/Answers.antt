use Rattle.safl_calls.proofs.FromWellFormed.{numbered}
use Rattle.safl_calls.proofs.MachineLaws as law
use Rattle.safl_calls.proofs.laws.right_law.Goals as goal

pub returns : goal.returns
returns c = λ C wf args es legal v e. law.right C C.functions (numbered C wf) wf.numbered args es legal v e
