use Rattle.safl_calls.proofs.FromWellFormed.{numbered}
use Rattle.safl_calls.proofs.Interference.{arbiter_serves}
use Rattle.safl_calls.proofs.laws.arbiter_law.Goals as goal

pub returns : goal.returns
returns c = λ C arbiter kept wf enough. arbiter_serves C arbiter (numbered C wf) enough.arbiters
