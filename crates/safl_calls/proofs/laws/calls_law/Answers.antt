use Rattle.safl_calls.proofs.FromWellFormed.{numbered}
use Rattle.safl_calls.proofs.MachineLaws as law
use Rattle.safl_calls.proofs.laws.calls_law.Goals as goal

pub returns-clause-lists : goal.returns-clause-lists
returns-clause-lists c = λ C wf args es legal v w d e f. law.same_calls C C.functions (numbered C wf) wf.numbered args es legal v w d e f

pub returns-clause-number : goal.returns-clause-number
returns-clause-number c = λ C wf args es legal v w d e. law.started C C.functions (numbered C wf) wf.numbered args es legal v w d e
