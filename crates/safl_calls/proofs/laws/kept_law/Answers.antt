use Rattle.safl_calls.proofs.FromWellFormed.{numbered}
use Rattle.safl_calls.proofs.KeptWords.{kept_serves}
use Rattle.safl_calls.proofs.laws.kept_law.Goals as goal

pub returns : goal.returns
returns c = λ C arbiter kept wf enough. kept_serves C kept (numbered C wf) enough.keeps
