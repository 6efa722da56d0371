use Rattle.safl_calls.proofs.FromWellFormed.{numbered}
use Rattle.safl_calls.proofs.Sequential.{one_event}
use Rattle.safl_calls.proofs.laws.sequence_law.Goals as goal

pub returns : goal.returns
returns c = λ C wf seq. one_event C (numbered C wf) seq
