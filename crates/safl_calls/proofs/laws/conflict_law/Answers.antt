use Rattle.safl_calls.proofs.FromWellFormed.{numbered}
use Rattle.safl_calls.proofs.Interference.{busy_conflict}
use Rattle.safl_calls.proofs.laws.conflict_law.Goals as goal

pub returns : goal.returns
returns c = λ C wf. busy_conflict C (numbered C wf)
