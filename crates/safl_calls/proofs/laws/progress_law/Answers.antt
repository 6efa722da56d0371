use Rattle.safl_calls.proofs.FromWellFormed.{numbered}
use Rattle.safl_calls.proofs.MachineLaws as law
use Rattle.safl_calls.proofs.laws.progress_law.Goals as goal

pub returns-clause-goes_on : goal.returns-clause-goes_on
returns-clause-goes_on c = λ C wf args es legal sized not_yet. law.goes_on C C.functions (numbered C wf) wf.numbered args es legal sized not_yet

pub returns-clause-stops : goal.returns-clause-stops
returns-clause-stops c = λ C wf args es legal v e over h. law.stops C C.functions (numbered C wf) wf.numbered args es legal v e over h
